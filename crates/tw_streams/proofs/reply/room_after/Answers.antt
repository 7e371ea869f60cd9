use Rattle.std.proofs.Common.{◌≡◌, ◌∙◌, ◌-◌, min, sym, ap, subst, arith, inl, inr, [], length, unwrap_or}
use Rattle.std.proofs.lemmas.Bool.{cases_lt}
use Rattle.std.proofs.lemmas.List.{append-nil}
use Rattle.tw_streams.specs.Framing.{longest}
use Rattle.tw_streams.proofs.reply.room_after.Goals as goal

pub returns-in-Some-clause-enough : goal.returns-in-Some-clause-enough
returns-in-Some-clause-enough g c = λ none.
    let bytes = c.args.bytes.now in
    let len = c.in-Some.len in
    let room : min 65536 (min len longest - length bytes) ≡ 0 = sym c.piece_up_to.ensures ∙ none in
    elim (cases_lt longest len) [
      | inl long ↦ inl (omega (arith, long, room, c.requires))
      | inr few ↦ inr (len, subst (λ of. g.N.Framing.ends_at of len) (append-nil bytes) (c.in-Some.ensures.ends []), omega (arith, few, room))
    ]

pub returns-in-Some-clause-known : goal.returns-in-Some-clause-known
returns-in-Some-clause-known g c = λ n ends some.
    let bytes = c.args.bytes.now in
    let is : c.in-Some.len ≡ n = ap (λ o. unwrap_or o 0) (sym c.in-Some.is ∙ c.len_of.ensures.only n ends) in
    let room : c.piece_up_to.result ≡ min 65536 (min n longest - length bytes) = c.piece_up_to.ensures ∙ ap (λ len. min 65536 (min len longest - length bytes)) is in
    omega (arith, some, room)

pub returns-in-None-clause-enough : goal.returns-in-None-clause-enough
returns-in-None-clause-enough g c = λ none.
    let room = sym c.piece_up_to-in-None.ensures ∙ none in
    inl (omega (arith, room, c.requires))

pub returns-in-None-clause-known : goal.returns-in-None-clause-known
returns-in-None-clause-known g c = λ n ends some. let told = c.len_of.ensures.only n ends in absurd (cc)
