-- What was sent comes back.
use Rattle.std.proofs.Common.{◌≡◌, ◌⊎◌, ℕ, ◌+◌, inl, inr, List, [], ◌∷◌, ◌++◌, length, refl, sym, ap, subst, ◌∙◌, arith, length-append}
use Rattle.std.proofs.lemmas.List.{append-nil, append_assoc, append_cancel_left}
use Rattle.std.specs.List.{AllByRecursion}
use Rattle.uuid.specs.Parts.{zero_bytes}
use Rattle.tw_model.specs.Ops.{TasksValue, apply, apply_all, FitAll, fit_part}
use Rattle.tw_model.specs.declared.SyncOp.{SyncOp}
use Rattle.tw_model.proofs.Ops.{fit_part_all}
use Rattle.tw_protocol.specs.Chain.{Version, IsChain, IsCut, IsBetween, HoldsAll, Grows, latest, last_from}
use Rattle.tw_protocol.proofs.Chains.{last_from-append, row_is_split_once}
use Rattle.tw_transform.specs.Grid.{grid}
use Rattle.tw_transform.specs.Positions.{IsPosition}
use Rattle.tw_transform.proofs.Cancel.{grid-append_local, grid_itself}
use Rattle.tw_groups.specs.Groups.{joined}
use Rattle.tw_groups.specs.Cut.{first, rest}
use Rattle.tw_groups.proofs.Cutting.{cut_splits}
use Rattle.tw_path.specs.Fold.{Reads}
use Rattle.tw_path.specs.Path.{Reached, Leg, come, IsPush, IsPath, is_batch, version_on, versions_of, ops_of, added_of}
use Rattle.tw_path.specs.Path.Leg.{Pull, Push}
use Rattle.tw_path.specs.PathLaws.{IsPartedBy}
use Rattle.tw_path.specs.Sent.{WasSent, PushesBehind, SendsLater, PushWasSent, UntoldWasSent, SentStays, SentIsNotSentAgain, SentIsNeverSentAgain}
use Rattle.tw_path.proofs.Reading.{reads_one, reads-append, reads_last}
use Rattle.tw_path.proofs.Paths.{grid_on, path_fits, path_applies, path_is_position, path_splits, come-append}
use Rattle.tw_path.proofs.Counting.{cut_pulls_back}
use Rattle.tw_path.proofs.Versions.{path_reads, come_at, versions-append, first_between}

-- ---- what is pushed was sent

front_fits : (t : TasksValue) (xs ys : List SyncOp) → FitAll t (xs ++ ys) → FitAll t xs
front_fits t [] ys f = tt
front_fits t (x ∷ xs) ys f = (f.0, front_fits (apply t x) xs ys f.1)

-- what fits cancels with its copy
itself : (t : TasksValue) (ops : List SyncOp) → FitAll t ops → grid (fit_part t ops) ops ≡ ([], [])
itself t ops f = ap (λ ss. grid ss ops) (fit_part_all t ops f) ∙ ap (grid ops) (sym (append-nil ops)) ∙ grid_itself ops []

pub push_was_sent : PushWasSent
push_was_sent r chain legs more v ops fit path between =
    let h : Reached = come r legs in
    let p = path_splits r legs (Push v ops ∷ more) path in
    let push : IsPush h v ops = p.1.0 in
    let others : List SyncOp = joined (rest is_batch h.left) in
    let ss : List SyncOp = fit_part r.tasks (ops_of legs) in
    let e : joined h.left ≡ ops ++ others = cut_splits is_batch h.left ∙ ap (λ zs. zs ++ others) (sym push.sent) in
    let by : IsPartedBy ss (joined r.left) ops others = cut_pulls_back ss (joined r.left) ops others (path_is_position r legs fit p.0 ∙ e) in
    let there : apply_all r.tasks (ops_of legs) ≡ h.tasks = sym (path_applies r legs) in
    let fits : FitAll h.tasks ops = front_fits h.tasks ops others (subst (λ zs. FitAll h.tasks zs) e (path_fits r legs fit p.0)) in
    let none : grid (fit_part (apply_all r.tasks (ops_of legs)) ops) (grid ss by.one).1 ≡ ([], []) =
    ap (λ (w : TasksValue). grid (fit_part w ops) (grid ss by.one).1) there ∙ ap (grid (fit_part h.tasks ops)) by.is_one ∙ itself h.tasks ops fits in
    let whole = grid_on r.tasks (ops_of legs) ops by.one in
    let was : WasSent r chain by.one by.two v.id = record {
      all = by.split;
      versions = versions_of (legs ++ Push v ops ∷ []);
      pulled = ops_of legs ++ ops;
      behind = between;
      reads = subst (λ vs. Reads vs (ops_of legs ++ ops)) (sym (versions-append legs (Push v ops ∷ []))) (reads-append (versions_of legs) (v ∷ []) (ops_of legs) ops (path_reads r legs p.0) (reads_last v ops push.reads));
      nothing = ap (λ (g : List SyncOp × List SyncOp). g.1) whole ∙ ap (λ (g : List SyncOp × List SyncOp). g.1) none;
    } in (
      by.one,
      by.two,
      was,
      ap (λ zs. (grid zs by.two).1) (ap (λ (g : List SyncOp × List SyncOp). g.0) whole ∙ ap (λ (g : List SyncOp × List SyncOp). (grid ss by.one).0 ++ g.0) none ∙ append-nil (grid ss by.one).0) ∙ by.is_two,
    )

pub untold_was_sent : UntoldWasSent
untold_was_sent r chain v ops fit push between =
    let others : List SyncOp = joined (rest is_batch r.left) in
    let e : joined r.left ≡ ops ++ others = cut_splits is_batch r.left ∙ ap (λ zs. zs ++ others) (sym push.sent) in
    let fits : FitAll r.tasks ops = front_fits r.tasks ops others (subst (λ zs. FitAll r.tasks zs) e fit) in
    let both : grid (fit_part r.tasks ops) ops ≡ ([], []) = itself r.tasks ops fits in
    let was : WasSent r chain ops others v.id = record {
      all = e;
      versions = v ∷ [];
      pulled = ops;
      behind = between;
      reads = reads_last v ops push.reads;
      nothing = ap (λ (g : List SyncOp × List SyncOp). g.1) both;
    } in
    (was, ap (λ (g : List SyncOp × List SyncOp). (grid g.0 others).1) both)

-- ---- it stays so

between_grows : (old new : List Version) (v w : List ℕ) (versions : List Version) → IsBetween old v w versions → Grows old new → IsBetween new v w versions
between_grows old new v w versions b g = record {
  front = b.front;
  back = b.back ++ g.more;
  split = g.joined ∙ ap (λ c. c ++ g.more) b.split ∙ append_assoc (b.front ++ versions) b.back g.more;
  from = b.from;
  to = b.to;
}

pub sent_stays : SentStays
sent_stays r now old new mine later others w was at tasks left grows = record {
  all = left;
  versions = was.versions;
  pulled = was.pulled;
  behind = subst (λ b. IsBetween new b w was.versions) (sym at) (between_grows old new r.at w was.versions was.behind grows);
  reads = was.reads;
  nothing = subst (λ (t : TasksValue). IsPosition t mine was.pulled []) (sym tasks) was.nothing;
}

-- ---- it comes back

cut_before : (chain : List Version) (v w : List ℕ) (versions : List Version) (b : IsBetween chain v w versions) → IsCut chain v b.front (versions ++ b.back)
cut_before chain v w versions b = record { split = b.split ∙ append_assoc b.front versions b.back; at = b.from }

cut_behind : (chain : List Version) (v w : List ℕ) (versions : List Version) (b : IsBetween chain v w versions) → IsCut chain w (b.front ++ versions) b.back
cut_behind chain v w versions b = record { split = b.split; at = b.to }

-- the versions after a part of those that were pulled
pub record Parts (now : List Version) (v h : List ℕ) (front all : List Version) : Type 0 where
  pub more : List Version
  pub split : all ≡ front ++ more
  pub behind : IsBetween now v h more

-- what was after the base before is pulled first, if all of the old chain is
parts : (old now : List Version) (b v h : List ℕ) (front all : List Version) → IsChain now → IsBetween old b v front → IsBetween now b h all → HoldsAll old now h → Parts now v h front all
parts old now b v h front all whole one two holds =
    let m = holds.holds.more in
    let front_is : holds.front ≡ one.front ++ (front ++ (one.back ++ m)) = holds.holds.joined ∙ ap (λ c. c ++ m) one.split ∙ append_assoc (one.front ++ front) one.back m ∙ append_assoc one.front front (one.back ++ m) in
    let now_is : now ≡ one.front ++ ((front ++ (one.back ++ m)) ++ holds.back) = holds.cut.split ∙ ap (λ c. c ++ holds.back) front_is ∙ append_assoc one.front (front ++ (one.back ++ m)) holds.back in
    let base : two.front ≡ one.front = row_is_split_once now b two.front (all ++ two.back) one.front ((front ++ (one.back ++ m)) ++ holds.back) whole (cut_before now b h all two) (record { split = now_is; at = one.from }) in
    let end : two.front ++ all ≡ holds.front = row_is_split_once now h (two.front ++ all) two.back holds.front holds.back whole (cut_behind now b h all two) holds.cut in
    let joined : one.front ++ all ≡ one.front ++ (front ++ (one.back ++ m)) = ap (λ f. f ++ all) (sym base) ∙ end ∙ front_is in
    record {
      more = one.back ++ m;
      split = append_cancel_left one.front all (front ++ (one.back ++ m)) joined;
      behind = record {
        front = one.front ++ front;
        back = holds.back;
        split = holds.cut.split ∙ ap (λ c. c ++ holds.back) (front_is ∙ sym (append_assoc one.front front (one.back ++ m)));
        from = one.to;
        to = ap latest (append_assoc one.front front (one.back ++ m) ∙ sym front_is) ∙ holds.cut.at;
      };
    }

-- a path in two parts, by its versions
pub record IsParted (legs : List Leg) (xs ys : List Version) : Type 0 where
  pub front : List Leg
  pub more : List Leg
  pub split : legs ≡ front ++ more
  pub is_front : versions_of front ≡ xs

first_version : (a b : Version) (xs ys : List Version) → a ∷ xs ≡ b ∷ ys → a ≡ b
first_version a b xs ys e = cc

other_versions : (a b : Version) (xs ys : List Version) → a ∷ xs ≡ b ∷ ys → xs ≡ ys
other_versions a b xs ys e = cc

parted : (legs : List Leg) (xs ys : List Version) → versions_of legs ≡ xs ++ ys → IsParted legs xs ys
parted legs [] ys e = record { front = []; more = legs; split = refl; is_front = refl }
parted [] (x ∷ xs) ys e = absurd cc
parted (leg ∷ legs) (x ∷ xs) ys e =
    let it : IsParted legs xs ys = parted legs xs ys (other_versions (version_on leg) x (versions_of legs) (xs ++ ys) e) in
    record { front = leg ∷ it.front; more = it.more; split = ap (λ zs. leg ∷ zs) it.split; is_front = λ i. first_version (version_on leg) x (versions_of legs) (xs ++ ys) e i ∷ it.is_front i }

module _ (before after : List Version) (r : Reached) (w : List ℕ) (vs : List Version) (whole : IsChain after) (grows : Grows before after) (is : IsBetween before r.at w vs) where
  -- what is pushed does not stand among what the chain held
  late : (done todo : List Leg) (v : Version) → versions_of done ++ v ∷ versions_of todo ≡ vs → v.parent ≡ (come r done).at → HoldsAll before after v.parent → ⊥
  late done todo v e parent holds =
      let d : List Version = versions_of done in
      let t : List Version = v ∷ versions_of todo in
      let split : after ≡ (is.front ++ d) ++ (t ++ (is.back ++ grows.more)) =
      grows.joined ∙ ap (λ c. c ++ grows.more) is.split ∙ ap (λ zs. ((is.front ++ zs) ++ is.back) ++ grows.more) (sym e)
      ∙ ap (λ zs. (zs ++ is.back) ++ grows.more) (sym (append_assoc is.front d t))
      ∙ append_assoc ((is.front ++ d) ++ t) is.back grows.more
      ∙ append_assoc (is.front ++ d) t (is.back ++ grows.more) in
      let at : latest (is.front ++ d) ≡ v.parent = last_from-append zero_bytes is.front d ∙ ap (λ h. last_from h d) is.from ∙ sym (come_at r done) ∙ sym parent in
      let same : holds.front ≡ is.front ++ d = row_is_split_once after v.parent holds.front holds.back (is.front ++ d) (t ++ (is.back ++ grows.more)) whole holds.cut (record { split = split; at = at }) in
      let a = ap length same in
      let b = ap length holds.holds.joined in
      let c = length-append before holds.holds.more in
      let f = ap length is.split in
      let g = length-append (is.front ++ vs) is.back in
      let h = length-append is.front vs in
      let k = length-append is.front d in
      let l = ap length e in
      let m = length-append d t in
      omega (arith, a, b, c, f, g, h, k, l, m)

  no_push : (done todo : List Leg) → IsPath (come r done) todo → PushesBehind before after todo → versions_of done ++ versions_of todo ≡ vs → added_of todo ≡ []
  no_push done [] p behind e = refl
  no_push done (Pull v ops ∷ todo) p behind e =
      no_push (done ++ Pull v ops ∷ []) todo (subst (λ s. IsPath s todo) (sym (come-append r done (Pull v ops ∷ []))) p.1) behind
      (ap (λ zs. zs ++ versions_of todo) (versions-append done (Pull v ops ∷ [])) ∙ append_assoc (versions_of done) (v ∷ []) (versions_of todo) ∙ e)
  no_push done (Push v ops ∷ todo) p behind e = absurd (late done todo v e p.0.parent behind.0)

added-append : (legs more : List Leg) → added_of (legs ++ more) ≡ added_of legs ++ added_of more
added-append [] more = refl
added-append (Pull v ops ∷ legs) more = added-append legs more
added-append (Push v ops ∷ legs) more = ap (λ vs. v ∷ vs) (added-append legs more)

front_of : (P : Version → Type 0) (xs ys : List Version) → AllByRecursion P (xs ++ ys) → AllByRecursion P xs
front_of P [] ys all = tt
front_of P (x ∷ xs) ys all = (all.0, front_of P xs ys all.1)

behind_front : (before after : List Version) (front more : List Leg) → PushesBehind before after (front ++ more) → PushesBehind before after front
behind_front before after front more b = front_of (λ v. HoldsAll before after v.parent) (added_of front) (added_of more) (subst (AllByRecursion (λ v. HoldsAll before after v.parent)) (added-append front more) b)

pub sent_is_not_sent_again : SentIsNotSentAgain
sent_is_not_sent_again before after r legs mine later w whole grows fit path between behind last was =
    let h : List ℕ = (come r legs).at in
    let two : Parts after w h was.versions (versions_of legs) = parts before after r.at w h was.versions (versions_of legs) whole was.behind between last in
    let it : IsParted legs was.versions two.more = parted legs was.versions two.more two.split in
    let p = path_splits r it.front it.more (subst (IsPath r) it.split path) in
    let ops : ops_of it.front ≡ was.pulled = reads_one was.versions (ops_of it.front) was.pulled (subst (λ vs. Reads vs (ops_of it.front)) it.is_front (path_reads r it.front p.0)) was.reads in
    let ss : List SyncOp = fit_part r.tasks was.pulled in
    let fresh : PushesBehind before after it.front = behind_front before after it.front it.more (subst (PushesBehind before after) it.split behind) in
    let to : last_from r.at was.versions ≡ w = ap (λ v. last_from v was.versions) (sym was.behind.from) ∙ sym (last_from-append zero_bytes was.behind.front was.versions) ∙ was.behind.to in
    record {
      first = it.front;
      more = it.more;
      split = it.split;
      none = no_push before after r w was.versions whole grows was.behind [] it.front p.0 fresh it.is_front;
      at = come_at r it.front ∙ ap (last_from r.at) it.is_front ∙ to;
      left =
          sym (path_is_position r it.front fit p.0)
          ∙ ap (λ zs. (grid (fit_part r.tasks zs) (joined r.left)).1) ops
          ∙ ap (λ zs. (grid ss zs).1) was.all
          ∙ ap (λ (g : List SyncOp × List SyncOp). g.1) (grid-append_local ss mine later)
          ∙ ap (λ zs. zs ++ (grid (grid ss mine).0 later).1) was.nothing;
    }

-- ---- and never

pub record HasFirstPush (legs : List Leg) : Type 0 where
  pub front : List Leg
  pub v : Version
  pub ops : List SyncOp
  pub more : List Leg
  pub split : legs ≡ front ++ Push v ops ∷ more

first_push : (legs : List Leg) → (added_of legs ≡ []) ⊎ HasFirstPush legs
first_push [] = inl refl
first_push (Push v ops ∷ legs) = inr (record { front = []; v = v; ops = ops; more = legs; split = refl })
first_push (Pull v ops ∷ legs) = by (first_push legs)
  where
    by : (added_of legs ≡ []) ⊎ HasFirstPush legs → (added_of legs ≡ []) ⊎ HasFirstPush (Pull v ops ∷ legs)
    by (inl none) = inl none
    by (inr it) = inr (record { front = Pull v ops ∷ it.front; v = it.v; ops = it.ops; more = it.more; split = ap (λ zs. Pull v ops ∷ zs) it.split })

last_of : (P : Version → Type 0) (xs : List Version) (y : Version) (ys : List Version) → AllByRecursion P (xs ++ y ∷ ys) → P y
last_of P [] y ys all = all.0
last_of P (x ∷ xs) y ys all = last_of P xs y ys all.1

pub sent_is_never_sent_again : SentIsNeverSentAgain
sent_is_never_sent_again before after r legs mine later w whole grows fit path between behind was = by (first_push legs)
  where
    by : (added_of legs ≡ []) ⊎ HasFirstPush legs → (added_of legs ≡ []) ⊎ SendsLater r legs w mine later was.pulled
    by (inl none) = inl none
    by (inr it) =
        let back : List Leg = Push it.v it.ops ∷ it.more in
        let p = path_splits r it.front back (subst (IsPath r) it.split path) in
        let b : IsBetween after r.at (come r it.front).at (versions_of it.front) = first_between after r it.front back (come r legs).at (subst (λ zs. IsBetween after r.at (come r legs).at (versions_of zs)) it.split between) in
        let all : PushesBehind before after (it.front ++ back) = subst (PushesBehind before after) it.split behind in
        let here : HoldsAll before after it.v.parent = last_of (λ v. HoldsAll before after v.parent) (added_of it.front) it.v (added_of it.more) (subst (AllByRecursion (λ v. HoldsAll before after v.parent)) (added-append it.front back) all) in
        let s : SendsLater r it.front w mine later was.pulled =
        sent_is_not_sent_again before after r it.front mine later w whole grows fit p.0 b (behind_front before after it.front back all) (subst (HoldsAll before after) p.1.0.parent here) was in
        inr (record {
          first = s.first;
          more = s.more ++ back;
          split = it.split ∙ ap (λ zs. zs ++ back) s.split ∙ append_assoc s.first s.more back;
          none = s.none;
          at = s.at;
          left = s.left;
        })
