-- Lines of a text, one after another.
use Rattle.std.specs.Prelude.{codes}
use Rattle.std.proofs.Common.{◌≡◌, ℕ, Bool, true, false, cond, List, [], ◌∷◌, ◌++◌, ap, ◌∙◌, append_assoc}
use Rattle.timew_cmd.specs.Commands.Export.{lines, more_lines}

-- what is to follow, at the first line or after one
abbrev pub to_follow : Bool → List (List ℕ) → List ℕ
to_follow is_first texts = cond is_first (lines texts) (more_lines texts)

pub one_line : (out new : List ℕ) (is_first : Bool) (text : List ℕ) (texts : List (List ℕ)) → new ≡ out ++ (cond is_first [] (codes ",\n") ++ text) → new ++ more_lines texts ≡ out ++ to_follow is_first (text ∷ texts)
one_line out new true text texts e = ap (λ ts. ts ++ more_lines texts) e ∙ append_assoc out text (more_lines texts)
one_line out new false text texts e =
    let parted : (codes ",\n" ++ text) ++ more_lines texts ≡ codes ",\n" ++ (text ++ more_lines texts) = append_assoc (codes ",\n") text (more_lines texts) in
    let joined : new ++ more_lines texts ≡ (out ++ (codes ",\n" ++ text)) ++ more_lines texts = ap (λ ts. ts ++ more_lines texts) e in
    joined ∙ append_assoc out (codes ",\n" ++ text) (more_lines texts) ∙ ap (λ ts. out ++ ts) parted
