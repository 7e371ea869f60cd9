use Rattle.timew_month.proofs.ChangedFiles.{month_texts}
use Rattle.timew_month.proofs.laws.a_month_file_is_the_text_of_its_month.Goals as goal

pub returns : goal.returns
returns c = month_texts
