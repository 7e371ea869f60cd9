use Rattle.std.proofs.Common.{◌≡◌, ◌<◌, ℕ, true, List, length, get_or, filter, map, ap, sym, subst, ◌∙◌, arith}
use Rattle.std.specs.String.{string_bytes}
use Rattle.tw_world.specs.Folder.{Files}
use Rattle.timew_interval.specs.MonthName.{is_month_name}
use Rattle.timew_month.specs.Gathered.{NamedBytes, files_of}
use Rattle.timew_month.specs.Files.{bytes_of}
use Rattle.timew_month.proofs.ChangesByName.{AreMonthNames, months_good}
use Rattle.timew_month.specs.NamedFiles.{are_named}
use Rattle.timew_month.proofs.MonthsAfter.{named_more}
use Rattle.timew_store.proofs.FilesRead.{all_here, one_file_read}
use Rattle.timew_store.proofs.ReadingCalls.{reads_joined}
use Rattle.timew_store.proofs.folder.read_files.Goals as goal

good_here : (names months : List (List ℕ)) (all : List (List ℕ)) (i : ℕ) (name : List ℕ) → months ≡ filter is_month_name all → names ≡ months → i < length names → name ≡ get_or names i name → is_month_name name ≡ true
good_here names months all i name is same lt here = all_here (λ (n : List ℕ). is_month_name n ≡ true) names i name (subst AreMonthNames (sym (same ∙ is)) (months_good all)) lt here

pub read_file-requires : goal.read_file-requires
read_file-requires g c = good_here c.deref-name-items.result.now c.in_ok-months.months.items (map string_bytes c.in_ok-names.names.items) c.loop-name.name-index c.name-item.result c.in_ok-months.ensures.names c.deref-name-items.ensures.value (omega arith) c.name-item.is

pub returns-in_err-read_file-clause-reads : goal.returns-in_err-read_file-clause-reads
returns-in_err-read_file-clause-reads g c = reads_joined g.F.Folder.model g.met.F.Folder.counts_now c.args.folder.now c.loop-name.folder c.read_file.new.folder c.loop-name.invariant.reads c.read_file.ensures.reads

pub returns-in_err-push-clause-reads : goal.returns-in_err-push-clause-reads
returns-in_err-push-clause-reads g c = reads_joined g.F.Folder.model g.met.F.Folder.counts_now c.args.folder.now c.loop-name.folder c.read_file.new.folder c.loop-name.invariant.reads c.read_file.ensures.reads

pub loop-name-preserved : goal.loop-name-preserved
loop-name-preserved g c = record {
  reads = reads_joined g.F.Folder.model g.met.F.Folder.counts_now c.args.folder.now c.loop-name.folder c.read_file.new.folder c.loop-name.invariant.reads c.read_file.ensures.reads;
  files_are = λ tells.
      let m = g.F.Folder.model in
      let name = c.name-item.result in
      let same : (name, bytes_of (m.seen c.loop-name.folder) name) ≡ (name, bytes_of (m.seen c.args.folder.now) name) = ap (λ (s : Files). let f : NamedBytes = (name, bytes_of s name) in f) (c.loop-name.invariant.reads.seen tells) in
      ap files_of c.in_ok-push.ensures.items
      ∙ one_file_read (m.seen c.args.folder.now) c.deref-name-items.result.now c.loop-name.name-index name c.loop-name.files.items c.in_ok-read_file.field-0 (omega arith) c.name-item.is (c.loop-name.invariant.files_are tells)
      (c.in_ok-read_file.ensures.file (c.loop-name.invariant.reads.steps.tells ∙ tells) ∙ same);
  named =
      let good = good_here c.deref-name-items.result.now c.in_ok-months.months.items (map string_bytes c.in_ok-names.names.items) c.loop-name.name-index c.name-item.result c.in_ok-months.ensures.names c.deref-name-items.ensures.value (omega arith) c.name-item.is in
      ap are_named c.in_ok-push.ensures.items ∙ named_more c.loop-name.files.items c.in_ok-read_file.field-0 c.loop-name.invariant.named (ap is_month_name c.in_ok-read_file.ensures.name ∙ good);
}
