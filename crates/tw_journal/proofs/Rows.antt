-- A file of a form, and its records: what is left where it is cut after them.
use Rattle.std.specs.Prelude.{Some}
use Rattle.std.proofs.Common.{◌≡◌, ◌⊎◌, inl, inr, ℕ, ◌<◌, ◌≤◌, List, [], length, take, drop, refl, sym, ◌∙◌, ap, subst, arith}
use Rattle.std.proofs.lemmas.List.{length-take, take_at, take-take, drop-take, append-nil, get_or-take}
use Rattle.tw_world.specs.Disk.{DiskModel, Tells, IsStable}
use Rattle.tw_journal.specs.Record.{rows}
use Rattle.tw_journal.specs.Form.{Records, start_in, selector_in, version_in, IsSameForm}
use Rattle.tw_journal.specs.Open.{Found, IsFormOf}
use Rattle.tw_journal.specs.Upgrade.{HasRow, HasAtMost, IsSettled}
use Rattle.tw_journal.specs.declared.form.Form.{Form}
use Rattle.tw_journal.proofs.Forms.{start_bounds, start_front}

-- what the search found is such a row
pub row_of : (magic file : List ℕ) (form : Form) (end number : ℕ) (known firsts : List ℕ) → IsFormOf magic file (Some form) → (found : Found file form.start end number known firsts) → HasRow magic file form end found.so_far.bodies
row_of magic file form end number known firsts is found = record {
  form_is = is;
  split = found.so_far.split;
  lengths = found.so_far.lengths;
  ends = found.so_far.end;
  closed = found.closed;
}

module _ (magic file : List ℕ) (form : Form) (end : ℕ) (bodies : List (List ℕ)) (row : HasRow magic file form end bodies) where
  pub row_records : Records magic file bodies
  row_records = inl (record { start = form.start; form = row.form_is.0; image = record { tail = drop end file; split = row.split; lengths = row.lengths; closed = row.closed } })

  pub row_stays : (c : List ℕ) → c ≡ file → HasAtMost magic bodies (length file) c
  row_stays c same = record { has = subst (λ (f : List ℕ). Records magic f bodies) (sym same) row_records; long = omega (arith, ap length same) }

  module _ (plain : form.selector < 4) (inside : end ≤ length file) where
    bounds : (13 ≤ form.start) × (form.start ≤ end)
    bounds = ((start_bounds magic file form.start row.form_is.0).0, omega (arith, row.ends))

    cut_long : length (take end file) ≡ end
    cut_long = omega (arith, length-take end file, inside)

    pub cut_form : IsSameForm magic file (take end file)
    cut_form = start_front magic file (take end file) end form.start row.form_is.0 (omega (arith, plain, row.form_is.1)) (take-take end end file (omega arith)) (inl bounds.1) (omega (arith, cut_long, bounds.1))

    pub cut_is : drop form.start (take end file) ≡ rows bodies
    cut_is =
        let n = length (rows bodies) in
        ap (λ (k : ℕ). drop form.start (take k file)) row.ends
        ∙ drop-take form.start n file
        ∙ ap (λ (l : List ℕ). take n l) row.split
        ∙ take_at (rows bodies) (drop end file) n refl

    pub cut_version : version_in (take end file) ≡ version_in file
    cut_version = get_or-take end file 12 0 (omega (arith, bounds.0, bounds.1))

    pub cut_has : (c : List ℕ) → (c ≡ file) ⊎ (c ≡ take end file) → HasAtMost magic bodies (length file) c
    cut_has c (inl same) = row_stays c same
    cut_has c (inr same) = record {
      has = subst (λ (f : List ℕ). Records magic f bodies) (sym same) (inl (record {
        start = form.start;
        form = cut_form.start ∙ row.form_is.0;
        image = record { tail = []; split = cut_is ∙ sym (append-nil (rows bodies)); lengths = row.lengths; closed = tt };
      }));
      long = omega (arith, ap length same, cut_long, inside);
    }

    pub cut_settled : {D : Type 0} (m : DiskModel D) (disk : D) → Tells m disk → IsStable m disk → m.seen disk ≡ take end file → IsSettled m magic form disk bodies
    cut_settled m disk tells settled seen = record {
      rest = record {
        tells = tells;
        settled = settled;
        form = ap (start_in magic) seen ∙ cut_form.start ∙ row.form_is.0;
        selector_is = ap selector_in seen ∙ cut_form.selector ∙ row.form_is.1;
        file = ap (drop form.start) seen ∙ cut_is;
        lengths = row.lengths;
      };
      version = ap version_in seen ∙ cut_version ∙ row.form_is.2;
    }
