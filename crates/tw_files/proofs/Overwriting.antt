-- Bytes that are read or written at an offset in several calls.
use Rattle.std.proofs.Common.{◌≡◌, ℕ, ◌+◌, ◌≤◌, List, [], ◌++◌, None, Some, length, take, drop, refl, sym, ap, ◌∙◌, arith, append-nil, length-append, length-drop, take-append-drop}
use Rattle.std.proofs.lemmas.List.{drop-drop, drop_all, length-take, length-replicate}
use Rattle.std.proofs.Math.Seq.{take-add}
use Rattle.std.specs.Prelude.{Option, replicate, ◌-◌}
use Rattle.tw_world.specs.Disk.{overwritten, resized}
use Rattle.tw_world.proofs.Overwriting.{adjacent}
use Rattle.tw_files.specs.OffsetFile.{Holds, Overwrites, Resizes}
use Rattle.tw_files.specs.FolderFiles.{HasBytes}

pub Holds-nil : (held : Option (List ℕ)) (at : ℕ) → Holds held at []
Holds-nil None at = tt
Holds-nil (Some held) at = refl

-- what comes after other bytes is there with them
pub Holds-more : (held : Option (List ℕ)) (at behind : ℕ) (p q : List ℕ) → behind ≡ at + length p → Holds held at p → Holds held behind q → Holds held at (p ++ q)
Holds-more None at behind p q next first second = tt
Holds-more (Some held) at behind p q next first second =
    ap (λ l. l ++ q) first
    ∙ ap (λ l. take (length p) (drop at held) ++ l) (second ∙ ap (λ n. take (length q) (drop n held)) next ∙ ap (take (length q)) (sym (drop-drop (length p) at held)))
    ∙ sym (take-add (length p) (length q) (drop at held))
    ∙ ap (λ n. take n (drop at held)) (sym (length-append p q))

pub Overwrites-nil : (held : Option (List ℕ)) (at : ℕ) → Overwrites held held at []
Overwrites-nil None at = refl
Overwrites-nil (Some held) at = λ room.
    let same : at + 0 ≡ at = omega arith in
    sym (ap (λ l. l ++ drop (at + 0) held) (append-nil (take at held)) ∙ ap (λ n. take at held ++ drop n held) same ∙ take-append-drop at held)

length-overwritten : (at : ℕ) (bytes held : List ℕ) → at + length bytes ≤ length held → length (overwritten at bytes held) ≡ length held
length-overwritten at bytes held le = omega (arith, length-append (take at held ++ bytes) (drop (at + length bytes) held), length-append (take at held) bytes, length-take at held, length-drop (at + length bytes) held)

-- what is written after other bytes is written with them
pub Overwrites-more : (a b c : Option (List ℕ)) (at behind : ℕ) (p q : List ℕ) → behind ≡ at + length p → Overwrites a b at p → Overwrites b c behind q → Overwrites a c at (p ++ q)
Overwrites-more None b c at behind p q next first second = unknown b c behind q first second
  where
    unknown : (b c : Option (List ℕ)) (behind : ℕ) (q : List ℕ) → b ≡ None → Overwrites b c behind q → c ≡ None
    unknown None c behind q first second = second
    unknown (Some y) c behind q first second = absurd (cc)
Overwrites-more (Some x) None c at behind p q next first second = absurd first
Overwrites-more (Some x) (Some y) None at behind p q next first second = absurd second
Overwrites-more (Some x) (Some y) (Some z) at behind p q next first second = λ room.
    let fits : at + length p + length q ≤ length x = omega (arith, room, length-append p q) in
    let now : y ≡ overwritten at p x = first (omega (arith, fits)) in
    let long : length y ≡ length x = ap length now ∙ length-overwritten at p x (omega (arith, fits)) in
    second (omega (arith, fits, long, next)) ∙ ap (λ n. overwritten n q y) next ∙ ap (overwritten (at + length p) q) now ∙ adjacent at p q x fits

length-resized : (len : ℕ) (held : List ℕ) → length (resized len held) ≡ len
length-resized len held = omega (arith, length-append (take len held) (replicate (len - length held) 0), length-take len held, length-replicate {A = ℕ} (len - length held) 0)

-- a file that was cut to the length of bytes, and written over by them, has these bytes alone
pub written_whole : (a b c : Option (List ℕ)) (bytes : List ℕ) → Resizes a b (length bytes) → Overwrites b c 0 bytes → HasBytes c bytes
written_whole None b c bytes sized written = unknown b c sized written
  where
    unknown : (b c : Option (List ℕ)) → b ≡ None → Overwrites b c 0 bytes → HasBytes c bytes
    unknown None None sized written = λ x is. absurd (cc)
    unknown None (Some z) sized written = absurd (cc)
    unknown (Some y) c sized written = absurd (cc)
written_whole (Some x) None c bytes sized written = absurd sized
written_whole (Some x) (Some y) None bytes sized written = absurd written
written_whole (Some x) (Some y) (Some z) bytes sized written =
    let long : length y ≡ length bytes = ap length sized ∙ length-resized (length bytes) x in
    let all : z ≡ bytes = written (omega (arith, long)) ∙ ap (λ (l : List ℕ). bytes ++ l) (drop_all (0 + length bytes) y (omega (arith, long))) ∙ append-nil bytes in
    λ v is. let same : v ≡ z = cc in same ∙ all
