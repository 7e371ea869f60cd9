-- What a command is to do that makes these copies.
use Rattle.std.proofs.Common.{false, ◌≡◌, refl, ℕ, List, [], ◌∷◌, length, map, Ok, Err}
use Rattle.tw_model.specs.Ops.{TaskValue}
use Rattle.tw_model.specs.declared.changes.Change.{Change}
use Rattle.tw_changes.specs.declared.marks.Mark.{Mark}
use Rattle.tw_changes.specs.declared.refusal.Refusal.TheVariants.{NoMatch}
use Rattle.tw_commands.specs.Makes.Duplicate.{change_of, duplicating}
use Rattle.tw_commands.specs.Plan.Work.{Changes}
use Rattle.tw_commands.specs.Plan.Show.{Counted}
use Rattle.tw_commands.specs.declared.plan.Deed.TheVariants.{Duplicated}

pub none_made : (es : List (List ℕ × TaskValue)) → length es ≡ 0 → Err NoMatch ≡ duplicating es
none_made [] e = refl
none_made (x ∷ es) e = absurd cc

pub some_made : (es : List (List ℕ × TaskValue)) (n : ℕ) (changes : List Change) (marks : List Mark) → (length es ≡ 0 → ⊥) → n ≡ length es → changes ≡ map change_of es → marks ≡ []
    → Ok (record { work = Changes false changes marks; show = Counted Duplicated n }) ≡ duplicating es
some_made [] n changes marks some count made none = absurd (some refl)
some_made (x ∷ es) n changes marks some count made none = λ i. Ok (record { work = Changes false (made i) (none i); show = Counted Duplicated (count i) })
