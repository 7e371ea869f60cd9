use Rattle.std.proofs.Common.{◌≡◌, ℕ, ◌+◌, ◌<◌, List, [], ◌∷◌, ◌++◌, length, map, take, get_or, sym, ap, ◌∙◌, arith}
use Rattle.std.proofs.lemmas.List.{take_more, map-append}
use Rattle.timew_month.specs.declared.months.MonthFile.{MonthFile}
use Rattle.timew_month.specs.Gathered.{NamedBytes, file_of, files_of}
use Rattle.timew_month.specs.NamedFiles.{bytes_in, bytes_after}
use Rattle.timew_month.specs.Records.{changes_of}
use Rattle.timew_month.proofs.changed.files_after.Goals as goal

abbrev named : (List ℕ → List ℕ) → List (List ℕ) → List NamedBytes
named bytes names = map (λ name. (name, bytes name)) names

one_more : (bytes : List ℕ → List ℕ) (names : List (List ℕ)) (i : ℕ) (name : List ℕ) (had more : List MonthFile) (file : MonthFile) → i < length names → name ≡ get_or names i name → files_of had ≡ named bytes (take i names)
    → file_of file ≡ (name, bytes name) → more ≡ had ++ file ∷ [] → files_of more ≡ named bytes (take (i + 1) names)
one_more bytes names i name had more file lt is so_far here one =
    ap files_of one
    ∙ map-append file_of had (file ∷ [])
    ∙ ap (λ (l : List NamedBytes). l ++ file_of file ∷ []) so_far
    ∙ ap (λ (f : NamedBytes). named bytes (take i names) ++ f ∷ []) here
    ∙ sym (map-append (λ (n : List ℕ). (n, bytes n)) (take i names) (name ∷ []))
    ∙ ap (named bytes) (ap (λ (n : List ℕ). take i names ++ n ∷ []) is ∙ sym (take_more names i name lt))

pub loop-name-preserved : goal.loop-name-preserved
loop-name-preserved c =
    one_more (λ (n : List ℕ). bytes_after (changes_of c.args.changes.now.items) n (bytes_in (files_of c.args.files.now.items) n)) c.deref-name-items.result.now c.loop-name.name-index c.name-item.result c.loop-name.next.items _ c.in_ok-file_after.field-0
    (omega arith) c.name-item.is c.loop-name.invariant c.in_ok-file_after.ensures c.in_ok-push.ensures.items
