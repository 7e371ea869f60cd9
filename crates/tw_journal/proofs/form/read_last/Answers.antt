use Rattle.std.specs.Int.{from_be_bytes, w64}
use Rattle.std.proofs.Common.{◌-◌, ℕ, sym, ap, ◌∙◌}
use Rattle.tw_journal.specs.Form.{slot_in}
use Rattle.tw_journal.proofs.form.read_last.Goals as goal

pub returns-clause-last : goal.returns-clause-last
returns-clause-last g c = λ tells.
    c.from_be_bytes.ensures
    ∙ ap (from_be_bytes w64) (c.in_ok-read_at.ensures.bytes tells)
    ∙ ap (λ (n : ℕ). slot_in (n - 8) (g.D.Disk.model.seen c.args.disk.now)) (sym c.requires.len ∙ g.met.D.Disk.has_length c.args.disk.now tells)
