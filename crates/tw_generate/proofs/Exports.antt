-- The export of all tasks.
use Rattle.std.proofs.Common.{◌≡◌, ◌∙◌, ap, ℕ, List}
use Rattle.std.specs.FinMap.{keys}
use Rattle.tw_model.specs.Ops.{TasksValue}
use Rattle.tw_urgency.specs.declared.coefficients.Coefficients.{Coefficients}
use Rattle.tw_export.specs.Export.{export_text}

pub of_all : (rows : List (List ℕ)) (tasks all : TasksValue) (second : ℕ) (weights : Coefficients) → rows ≡ keys tasks → tasks ≡ all
    → export_text rows tasks second weights ≡ export_text (keys all) all second weights
of_all rows tasks all second weights named same =
    ap (λ (r : List (List ℕ)). export_text r tasks second weights) named ∙ ap (λ (t : TasksValue). export_text (keys t) t second weights) same
