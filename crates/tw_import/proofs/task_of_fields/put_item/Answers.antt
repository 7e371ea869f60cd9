use Rattle.std.proofs.Common.{◌++◌, [], codes, sym, subst}
use Rattle.std.proofs.lemmas.Result.{on_ok_weaker}
use Rattle.std.specs.FinMap.{len}
use Rattle.uuid.specs.Text.{hyphenated_text, lower}
use Rattle.tw_import.specs.Import.{annotation_at, free_second}
use Rattle.tw_import.specs.Seconds.{AreSkips}
use Rattle.tw_import.proofs.StillAnnotated.{kept_skips, two_ok}
use Rattle.tw_import.proofs.task_of_fields.put_item.Goals as goal

pub returns-in-Tag-clause-skips : goal.returns-in-Tag-clause-skips
returns-in-Tag-clause-skips c =
    on_ok_weaker c.put_tag.result (λ e. subst (λ m. AreSkips m c.args.skips.now.entries) (sym e) (kept_skips c.args.draft.now (codes "tag_" ++ c.as_str.result.now) [] c.args.skips.now.entries c.requires)) c.put_tag.ensures

pub returns-in-Dependency-clause-skips : goal.returns-in-Dependency-clause-skips
returns-in-Dependency-clause-skips c =
    on_ok_weaker c.put_dependency.result (λ e. subst (λ m. AreSkips m c.args.skips.now.entries) (sym e) (kept_skips c.args.draft.now (codes "dep_" ++ hyphenated_text lower c.in-Dependency.uuid) [] c.args.skips.now.entries c.requires)) c.put_dependency.ensures

pub returns-in-Annotation-clause-skips : goal.returns-in-Annotation-clause-skips
returns-in-Annotation-clause-skips c =
    two_ok c.put_annotation.result c.put_annotation.ensures.put c.put_annotation.ensures.skips (λ e skips. subst (λ m. AreSkips m c.put_annotation.new.skips.entries) (sym e) (kept_skips c.args.draft.now (annotation_at (free_second (len c.args.draft.now) c.args.draft.now c.in-Annotation.at)) c.as_str-in-Annotation.result.now c.put_annotation.new.skips.entries skips))
