use Rattle.std.proofs.Common.{◌≡◌, ◌∙◌, List, ℕ, length, drop, sym, ap, arith}
use lib.Pointwise.{pointwise}
use Rattle.std.specs.Prelude.{nat_eq}
use Rattle.tw_model.specs.Ops.{TaskValue}
use Rattle.tw_model.specs.Maps.{same_bytes}
use Rattle.tw_numbers.specs.Placed.{open_uuids}
use Rattle.tw_numbers.proofs.OrderedUuids.{passed_over, differs, matches, is_inside, all_told}
use Rattle.tw_numbers.proofs.soundness.are_those_open.Goals as goal

pub returns-then-not-is_at : goal.returns-then-not-is_at
returns-then-not-is_at c =
    let left = drop c.loop-uuid.at c.args.uuids.now.items in
    sym (differs left (c.in-Some.uuid.now, c.in-Some.task.now) c.next.new.self (sym c.is_open.ensures ∙ c.if-is_open.true) (sym c.is_at.ensures ∙ c.if-not-is_at.true))
    ∙ ap (λ (es : List (List ℕ × TaskValue)). pointwise same_bytes left (open_uuids es)) (sym c.in-Some.ensures.steps) ∙ c.loop-uuid.invariant.0

pub loop-uuid-preserved-then-is_open : goal.loop-uuid-preserved-then-is_open
loop-uuid-preserved-then-is_open c =
    let us = c.args.uuids.now.items in
    let same = sym c.is_at.ensures ∙ c.if-not-is_at.false in (
      sym (matches us c.loop-uuid.at (c.in-Some.uuid.now, c.in-Some.task.now) c.next.new.self (sym c.is_open.ensures ∙ c.if-is_open.true) same)
          ∙ ap (λ (es : List (List ℕ × TaskValue)). pointwise same_bytes (drop c.loop-uuid.at us) (open_uuids es)) (sym c.in-Some.ensures.steps) ∙ c.loop-uuid.invariant.0,
      omega (arith, is_inside us c.loop-uuid.at c.in-Some.uuid.now same),
    )

pub loop-uuid-preserved : goal.loop-uuid-preserved
loop-uuid-preserved c =
    let left = drop c.loop-uuid.at c.args.uuids.now.items in (
      sym (passed_over left (c.in-Some.uuid.now, c.in-Some.task.now) c.next.new.self (sym c.is_open.ensures ∙ c.if-is_open.false))
          ∙ ap (λ (es : List (List ℕ × TaskValue)). pointwise same_bytes left (open_uuids es)) (sym c.in-Some.ensures.steps) ∙ c.loop-uuid.invariant.0,
      c.loop-uuid.invariant.1,
    )

pub returns : goal.returns
returns c =
    let us = c.args.uuids.now.items in
    let size : c.len.result ≡ length us = omega (arith, c.len.ensures) in
    ap (λ n. nat_eq c.loop-uuid.at n) size ∙ sym (all_told us c.loop-uuid.at c.loop-uuid.invariant.1)
    ∙ ap (λ (es : List (List ℕ × TaskValue)). pointwise same_bytes (drop c.loop-uuid.at us) (open_uuids es)) (sym c.in-None.ensures.steps.0) ∙ c.loop-uuid.invariant.0
