-- What becomes of each template once all are asked.
use Rattle.std.proofs.Common.{◌≡◌, ℕ, suc, ◌+◌, ◌<◌, ◌≤◌, ◌⊎◌, inl, inr, Bool, true, false, cond, List, [], ◌∷◌, ◌++◌, length, T, Option, Some, None, refl, sym, ap, subst, ◌∙◌, arith, append-nil, append_assoc}
use Rattle.std.specs.Prelude.{⊤, nat_lt, chars, codes}
use Rattle.std.proofs.lemmas.Bool.{lt-ltb, le-ltb}
use Rattle.std.proofs.lemmas.List.{length-append}
use Rattle.std.specs.Cmp.Lexicographic.{texts_ties}
use Rattle.std.specs.FinMap.{find, is_sorted}
use Rattle.std.specs.FinMap.Entries.{below_all}
use Rattle.tw_model.specs.Maps.{bytes_cmp, same_bytes}
use Rattle.tw_model.specs.Ops.{TaskValue}
use Rattle.tw_model.specs.declared.changes.Change.{Change}
use Rattle.tw_model.proofs.Maps.{same_bytes_exact, same_bytes_itself, same_bytes_back}
use Rattle.tw_model.proofs.Sorted.{first, second}
use Rattle.tw_urgency.specs.Stored.{moment_at}
use Rattle.tw_recur.specs.declared.recurrence.Recurrence.{Recurrence}
use Rattle.tw_recur.specs.Recurrence.{wanted, recurrence_of, mask_of}
use Rattle.tw_recur.specs.Instances.{Asked, Growth, Making, grown, with_mask, mask_change, with_recurrence, with_parent, with_parents}
use Rattle.tw_recur.specs.Apart.{AreOthers}
use Rattle.tw_recur.proofs.Marks.{AreHeld, Keeps, are_held_on, grown_is}
use Rattle.tw_recur.proofs.Once.{Entries, AreKeys, IsStep, below_apart, parent_step, found_first, found_later}

-- ---- entries

abbrev pub Each : (List ℕ → TaskValue → Type 0) → Entries → Type 0
Each P [] = ⊤
Each P (e ∷ es) = P e.0 e.1 × Each P es

pub found_by : (e : List ℕ × TaskValue) (es : Entries) (k : List ℕ) (b : Bool) → same_bytes k e.0 ≡ b → find bytes_cmp k (e ∷ es) ≡ cond b (Some e.1) (find bytes_cmp k es)
found_by e es k b is = ap (λ t. cond t (Some e.1) (find bytes_cmp k es)) (sym (texts_ties k e.0) ∙ is)

some_same : (x y : TaskValue) → Some x ≡ Some y → x ≡ y
some_same x y e = cc

below_found : (u : List ℕ) (es : Entries) (k : List ℕ) (t : TaskValue) → T (below_all bytes_cmp u es) → find bytes_cmp k es ≡ Some t → same_bytes u k ≡ false
below_found u [] k t b is = absurd (cc)
below_found u (e ∷ es) k t b is =
    elim (same_bytes k e.0) as (λ x. same_bytes k e.0 ≡ x → same_bytes u k ≡ false) [
      | true ↦ λ x. ap (same_bytes u) (same_bytes_exact k e.0 x) ∙ below_apart u e.0 (first _ _ b)
      | false ↦ λ x. below_found u es k t (second _ _ b) (sym (found_by e es k false x) ∙ is)
    ] refl

pub each_found : (P : List ℕ → TaskValue → Type 0) (es : Entries) → T (is_sorted bytes_cmp es) → ((k : List ℕ) (t : TaskValue) → find bytes_cmp k es ≡ Some t → P k t) → Each P es
each_found P [] h f = tt
each_found P (e ∷ es) h f = (
  f e.0 e.1 (found_by e es e.0 true (same_bytes_itself e.0)),
  each_found P es (second _ _ h) (λ k t is. f k t (found_by e es k false (same_bytes_back k e.0 ∙ below_found e.0 es k t (first _ _ h) is) ∙ is)),
)

pub at_found : (P : List ℕ → TaskValue → Type 0) (es : Entries) (k : List ℕ) (t : TaskValue) → Each P es → find bytes_cmp k es ≡ Some t → P k t
at_found P [] k t each is = absurd (cc)
at_found P (e ∷ es) k t each is =
    elim (same_bytes k e.0) as (λ x. same_bytes k e.0 ≡ x → P k t) [
      | true ↦ λ x. subst (λ z. P k z) (some_same e.1 t (sym (found_by e es k true x) ∙ is)) (subst (λ q. P q e.1) (sym (same_bytes_exact k e.0 x)) each.0)
      | false ↦ λ x. at_found P es k t each.1 (sym (found_by e es k false x) ∙ is)
    ] refl

-- ---- changes

abbrev pub IsAmong : Change → List Change → Type 0
IsAmong c [] = ⊥
IsAmong c (d ∷ ds) = (d ≡ c) ⊎ IsAmong c ds

among_front : (c : Change) (cs ds : List Change) → IsAmong c cs → IsAmong c (cs ++ ds)
among_front c [] ds i = absurd i
among_front c (d ∷ cs) ds i = elim i [ inl e ↦ inl e | inr later ↦ inr (among_front c cs ds later) ]

among_last : (c : Change) (cs : List Change) → IsAmong c (cs ++ c ∷ [])
among_last c [] = inl refl
among_last c (d ∷ cs) = inr (among_last c cs)

others_both : (u : List ℕ) (cs ds : List Change) → AreOthers u cs → AreOthers u ds → AreOthers u (cs ++ ds)
others_both u [] ds o p = p
others_both u (c ∷ cs) ds o p = (o.0, others_both u cs ds o.1 p)

-- what is told of a template: nothing, or its longer mask
abbrev pub IsTold : List ℕ → TaskValue → (now : ℕ) → (more : List ℕ) → List Change → Type 0
IsTold u task now [] cs = AreOthers u cs
IsTold u task now (c ∷ more) cs = IsAmong (record { uuid = u; task = Some (with_mask task (mask_of task ++ c ∷ more) now) }) cs

told_on : (u : List ℕ) (task : TaskValue) (now : ℕ) (more : List ℕ) (cs later : List Change) → AreOthers u later → IsTold u task now more cs → IsTold u task now more (cs ++ later)
told_on u task now [] cs later o t = others_both u cs later t o
told_on u task now (c ∷ more) cs later o t = among_front _ cs later t

is_less : (a b : ℕ) → a < b → nat_lt a b ≡ true
is_less a b lt = lt-ltb a b lt

is_no_less : (a b : ℕ) → b ≤ a → nat_lt a b ≡ false
is_no_less a b le = le-ltb a b le

told_whole : (u : List ℕ) (task : TaskValue) (now : ℕ) (cs : List Change) (more : List ℕ) → AreOthers u cs → IsTold u task now more (cs ++ mask_change u task now (mask_of task ++ more))
told_whole u task now cs [] o =
    let change : Change = record { uuid = u; task = Some (with_mask task (mask_of task ++ []) now) } in
    let count : length (mask_of task ++ []) ≡ length (mask_of task) = ap length (append-nil (mask_of task)) in
    let same = is_no_less (length (mask_of task)) (length (mask_of task ++ [])) (omega (arith, count)) in
    subst (AreOthers u) (sym (ap (λ b. cs ++ cond b (change ∷ []) []) same ∙ append-nil cs)) o
told_whole u task now cs (c ∷ more) o =
    let change : Change = record { uuid = u; task = Some (with_mask task (mask_of task ++ c ∷ more) now) } in
    let count : length (mask_of task ++ c ∷ more) ≡ length (mask_of task) + suc (length more) = length-append (mask_of task) (c ∷ more) in
    let longer = is_less (length (mask_of task)) (length (mask_of task ++ c ∷ more)) (omega (arith, count)) in
    subst (IsAmong change) (sym (ap (λ b. cs ++ cond b (change ∷ []) []) longer)) (among_last change cs)

told_by : (u : List ℕ) (task : TaskValue) (now : ℕ) (cs : List Change) (mask more : List ℕ) → mask ≡ mask_of task ++ more → AreOthers u cs → IsTold u task now more (cs ++ mask_change u task now mask)
told_by u task now cs mask more is o = subst (λ k. IsTold u task now more (cs ++ mask_change u task now k)) (sym is) (told_whole u task now cs more o)

-- ---- templates

pub record IsGrownIn (a : Asked) (u : List ℕ) (task : TaskValue) (m : Making) (r : Recurrence) : Type 0 where
  pub more : List ℕ
  pub held : AreHeld a.tasks m.made a.now u (length (chars (mask_of task))) more
  pub ends : length more < 1000 → wanted r (moment_at (codes "until") task) a.zone a.now a.limit (length (chars (mask_of task)) + length more) ≡ None
  pub told : IsTold u task a.now more m.parents

abbrev pub IsDone : Asked → Making → List ℕ → TaskValue → Option Recurrence → Type 0
IsDone a m u task None = AreOthers u m.parents
IsDone a m u task (Some r) = IsGrownIn a u task m r

parent_done : (a : Asked) (u : List ℕ) (task : TaskValue) (m : Making) → AreOthers u m.parents → IsDone a (with_parent a u task m) u task (recurrence_of task)
unfolding with_parent
parent_done a u task m o =
    elim (recurrence_of task) as (λ r. IsDone a (with_recurrence a u task m r) u task r) [
      | None ↦ o
      | Some r ↦ (let start : Growth = record { made = m.made; mask = mask_of task } in
          let p = grown_is a u task r 1000 (length (chars (mask_of task))) start in
          record {
            more = p.more;
            held = p.held;
            ends = p.ends;
            told = told_by u task a.now m.parents (grown a u task r (length (chars (mask_of task))) 1000 start).mask p.more p.mask o;
          })
    ]

-- what the other templates add
record Extends (u : List ℕ) (m n : Making) : Type 0 where
  pub kept : Keeps m.made n.made
  pub later : List Change
  pub is : n.parents ≡ m.parents ++ later
  pub others : AreOthers u later

extends_none : (u : List ℕ) (m : Making) → Extends u m m
extends_none u m = record { kept = λ v t h. h; later = []; is = sym (append-nil m.parents); others = tt }

extends_more : (u : List ℕ) (m n o : Making) → Extends u m n → Extends u n o → Extends u m o
extends_more u m n o x y = record {
  kept = λ v t h. y.kept v t (x.kept v t h);
  later = x.later ++ y.later;
  is = y.is ∙ ap (λ cs. cs ++ y.later) x.is ∙ append_assoc m.parents x.later y.later;
  others = others_both u x.later y.later x.others y.others;
}

others_if : (u : List ℕ) (b : Bool) (c : Change) → same_bytes c.uuid u ≡ false → AreOthers u (cond b (c ∷ []) [])
others_if u true c e = (e, tt)
others_if u false c e = tt

parent_extends : (a : Asked) (v : List ℕ) (task : TaskValue) (m : Making) (u : List ℕ) → same_bytes v u ≡ false → Extends u m (with_parent a v task m)
unfolding with_parent
parent_extends a v task m u e =
    elim (recurrence_of task) as (λ r. Extends u m (with_recurrence a v task m r)) [
      | None ↦ extends_none u m
      | Some r ↦ (let start : Growth = record { made = m.made; mask = mask_of task } in
          let mask : List ℕ = (grown a v task r (length (chars (mask_of task))) 1000 start).mask in
          record {
            kept = (grown_is a v task r 1000 (length (chars (mask_of task))) start).kept;
            later = mask_change v task a.now mask;
            is = refl;
            others = others_if u (nat_lt (length (mask_of task)) (length mask)) (record { uuid = v; task = Some (with_mask task mask a.now) }) e;
          })
    ]

all_extend : (a : Asked) (u : List ℕ) (es : Entries) (m : Making) → T (below_all bytes_cmp u es) → Extends u m (with_parents a m es)
all_extend a u [] m b = extends_none u m
all_extend a u (e ∷ es) m b =
    extends_more u m (with_parent a e.0 e.1 m) (with_parents a (with_parent a e.0 e.1 m) es)
    (parent_extends a e.0 e.1 m u (same_bytes_back e.0 u ∙ below_apart u e.0 (first _ _ b)))
    (all_extend a u es (with_parent a e.0 e.1 m) (second _ _ b))

done_on : (a : Asked) (u : List ℕ) (task : TaskValue) (m n : Making) (o : Option Recurrence) → Extends u m n → IsDone a m u task o → IsDone a n u task o
done_on a u task m n None x d = subst (AreOthers u) (sym x.is) (others_both u m.parents x.later d x.others)
done_on a u task m n (Some r) x d = record {
  more = d.more;
  held = are_held_on a.tasks m.made n.made a.now u (length (chars (mask_of task))) d.more x.kept d.held;
  ends = d.ends;
  told = subst (IsTold u task a.now d.more) (sym x.is) (told_on u task a.now d.more m.parents x.later x.others d.told);
}

pub all_done : (a : Asked) (es : Entries) (m : Making) → T (is_sorted bytes_cmp es) → AreKeys a.tasks es → IsStep a.tasks es m
    → Each (λ u task. IsDone a (with_parents a m es) u task (recurrence_of task)) es
all_done a [] m h k s = tt
all_done a (e ∷ es) m h k s =
    let rest : IsStep a.tasks es m = record { new = s.new; parents = record { apart = s.parents.apart; known = s.parents.known; ahead = s.parents.ahead.1 } } in
    let next = parent_step a e.0 e.1 es (k e.0 (found_first e es)) (first _ _ h) m s.parents.ahead.0 rest in (
      done_on a e.0 e.1 (with_parent a e.0 e.1 m) (with_parents a (with_parent a e.0 e.1 m) es) (recurrence_of e.1) (all_extend a e.0 es (with_parent a e.0 e.1 m) (first _ _ h)) (parent_done a e.0 e.1 m s.parents.ahead.0),
      all_done a es (with_parent a e.0 e.1 m) (second _ _ h) (λ q f. k q (found_later q e es f)) next,
    )
