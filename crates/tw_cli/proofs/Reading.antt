-- What is read of a source, piece by piece.
use Rattle.std.proofs.Common.{◌≡◌, ◌∙◌, ◌+◌, ◌<◌, ◌≤◌, ◌++◌, ap, sym, arith, length, length-append, take, drop, append_assoc, List, [], ℕ}
use Rattle.std.proofs.lemmas.List.{append-nil, take-append-drop, length-take-le}
use Rattle.std.proofs.Math.Seq.{drop-append_seam}
use Rattle.tw_world.specs.Source.{SourceModel, Gave, IsFront, TellsRest}
use Rattle.tw_cli.specs.Input.{ReadMore, ReadAll, max_input}

-- the bytes at the front of a buffer and those behind them are those that were there
fronted : (before after buffer : List ℕ) (count : ℕ) → IsFront before after buffer count → take count buffer ++ after ≡ before
fronted before after buffer count f = ap (λ t. t ++ after) f.bytes ∙ ap (λ t. take count before ++ t) f.rest ∙ take-append-drop count before

-- what is behind one byte more than may be read
pub too_long : (bytes rest all : List ℕ) → 67108864 < length bytes → length bytes ≤ 67108865 → bytes ++ rest ≡ all → (67108864 < length all) × (rest ≡ drop 67108865 all)
too_long bytes rest all more few is =
    let same : length bytes ≡ 67108865 = omega (arith, more, few) in
    let whole : length all ≡ length bytes + length rest = ap length (sym is) ∙ length-append bytes rest in
    (omega (arith, more, whole), sym (drop-append_seam bytes rest) ∙ ap (λ n. drop n (bytes ++ rest)) same ∙ ap (drop 67108865) is)

module _ {S : Type 0} (m : SourceModel S) (i0 i1 : S) where
  pub read_more : (old new buffer : List ℕ) (count : ℕ) → count ≤ length buffer → Gave m i0 i1 buffer count → new ≡ old ++ take count buffer → ReadMore m i0 i1 old new count
  read_more old new buffer count within gave is = record {
    longer = ap length is ∙ length-append old (take count buffer) ∙ ap (λ n. length old + n) (length-take-le count buffer within);
    all = λ tells. ap (λ t. t ++ m.rest i1) is ∙ append_assoc old (take count buffer) (m.rest i1) ∙ ap (λ t. old ++ t) (fronted (m.rest i0) (m.rest i1) buffer count (gave tells));
    end = λ tells none. ended (m.rest i0) (m.rest i1) (gave tells) none;
  }
    where
      ended : (before after : List ℕ) → IsFront before after buffer count → count ≡ 0 → after ≡ []
      ended before after f none = f.rest ∙ ap (λ n. drop n before) none ∙ f.end none

  -- at the end all was read
  pub read_all : (start : List ℕ) (bytes : List ℕ) → length bytes ≤ max_input → (TellsRest m i0 → (bytes ++ m.rest i1 ≡ m.rest i0) × (m.rest i1 ≡ [])) → ReadAll m i0 i1 bytes
  read_all start bytes fits all = record { all = λ tells. (sym (append-nil bytes) ∙ ap (λ t. bytes ++ t) (sym (all tells).1) ∙ (all tells).0, (all tells).1); fits = fits }
