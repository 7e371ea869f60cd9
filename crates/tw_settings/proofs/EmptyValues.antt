-- An empty value says what no value says.
use Rattle.std.proofs.Common.{◌≡◌, ℕ, ℤ, Bool, true, false, cond, List, [], ◌∷◌, Option, Some, None, codes, refl, sym, ap, subst, ◌∙◌}
use Rattle.tw_model.specs.Maps.{same_bytes}
use Rattle.tw_model.proofs.Maps.{same_bytes_exact}
use Rattle.tw_urgency.specs.Urgency.{defaults}
use Rattle.tw_text.specs.Decimal.{thousandths, unsigned_thousandths}
use Rattle.uuid.specs.Text.{parsed}
use Rattle.tw_settings.specs.Address.{parts_in, address_at}
use Rattle.tw_settings.specs.Folder.{set_before, value_with, located, folder_set}
use Rattle.tw_settings.specs.Settings.{Pair, value_behind, value_of}
use Rattle.tw_settings.specs.Servers.{server_of, read_by, server_set}
use Rattle.tw_settings.specs.Switches.{is_off, is_on, switched, turned_on}
use Rattle.tw_settings.specs.Weights.{read_or, number_read_or, coefficient, weights}
use Rattle.tw_settings.specs.Readings.{without, EmptyIsAbsent}

-- ---- the value of a name after a line

pub value_passes : (name : List ℕ) (value : Option (List ℕ)) (set : Option (Option Pair)) (later : List Pair)
    → value_behind name value (set_before set later) ≡ value_behind name (value_with name value set) later
value_passes name value None later = refl
value_passes name value (Some None) later = refl
value_passes name value (Some (Some x)) later = refl

-- ---- values without the settings of a name

value_of_it : (name : List ℕ) (pairs : List Pair) (value : Option (List ℕ)) → value_behind name value (without name pairs) ≡ value
value_of_it name [] value = refl
value_of_it name (x ∷ xs) value = by (same_bytes x.0 name) refl (value_of_it name xs value)
  where
    by : (t : Bool) → same_bytes x.0 name ≡ t → value_behind name value (without name xs) ≡ value
        → value_behind name value (cond t (without name xs) (x ∷ without name xs)) ≡ value
    by true e rest = rest
    by false e rest = ap (λ t. value_behind name (cond t (Some x.1) value) (without name xs)) e ∙ rest

value_of_other : (name other : List ℕ) → same_bytes name other ≡ false → (pairs : List Pair) (value : Option (List ℕ))
    → value_behind other value (without name pairs) ≡ value_behind other value pairs
value_of_other name other apart [] value = refl
value_of_other name other apart (x ∷ xs) value = by (same_bytes x.0 name) refl (value_of_other name other apart xs)
  where
    by : (t : Bool) → same_bytes x.0 name ≡ t
        → ((v : Option (List ℕ)) → value_behind other v (without name xs) ≡ value_behind other v xs)
        → value_behind other value (cond t (without name xs) (x ∷ without name xs)) ≡ value_behind other (cond (same_bytes x.0 other) (Some x.1) value) xs
    by true e rest =
        rest value
        ∙ ap (λ t. value_behind other (cond t (Some x.1) value) xs) (sym (ap (λ n. same_bytes n other) (same_bytes_exact x.0 name e) ∙ apart))
    by false e rest = rest (cond (same_bytes x.0 other) (Some x.1) value)

-- ---- what is read

no_number : (default : ℤ) → read_or default (Some []) ≡ default
unfolding thousandths unsigned_thousandths
no_number default = refl

no_switch : switched (Some []) ≡ true
unfolding is_off
no_switch = refl

no_word : turned_on (Some []) ≡ false
unfolding is_on
no_word = refl

module _ (name : List ℕ) (pairs : List Pair) (empty : value_of name pairs ≡ Some []) where
  -- what reads an empty value as none reads the same without the name
  pub reads : {A : Type 0} (read : Option (List ℕ) → A) (other : List ℕ) → read (Some []) ≡ read None
      → read (value_of other pairs) ≡ read (value_of other (without name pairs))
  reads read other same = by (same_bytes name other) refl
    where
      by : (t : Bool) → same_bytes name other ≡ t → read (value_of other pairs) ≡ read (value_of other (without name pairs))
      by true e =
          subst (λ n. read (value_of n pairs) ≡ read (value_of n (without name pairs))) (same_bytes_exact name other e)
          (ap read empty ∙ same ∙ ap read (sym (value_of_it name pairs None)))
      by false e = ap read (sym (value_of_other name other e pairs None))

  weight_reads : (other : List ℕ) (default : ℤ) → coefficient other default pairs ≡ coefficient other default (without name pairs)
  weight_reads other default = reads (read_or default) other (no_number default)

  weights_read : weights pairs ≡ weights (without name pairs)
  weights_read i = record {
    tag_next = weight_reads (codes "urgency.user.tag.next.coefficient") defaults.tag_next i;
    due = weight_reads (codes "urgency.due.coefficient") defaults.due i;
    blocking = weight_reads (codes "urgency.blocking.coefficient") defaults.blocking i;
    high = weight_reads (codes "urgency.uda.priority.H.coefficient") defaults.high i;
    medium = weight_reads (codes "urgency.uda.priority.M.coefficient") defaults.medium i;
    low = weight_reads (codes "urgency.uda.priority.L.coefficient") defaults.low i;
    scheduled = weight_reads (codes "urgency.scheduled.coefficient") defaults.scheduled i;
    active = weight_reads (codes "urgency.active.coefficient") defaults.active i;
    age = weight_reads (codes "urgency.age.coefficient") defaults.age i;
    annotations = weight_reads (codes "urgency.annotations.coefficient") defaults.annotations i;
    tags = weight_reads (codes "urgency.tags.coefficient") defaults.tags i;
    project = weight_reads (codes "urgency.project.coefficient") defaults.project i;
    blocked = weight_reads (codes "urgency.blocked.coefficient") defaults.blocked i;
    waiting = weight_reads (codes "urgency.waiting.coefficient") defaults.waiting i;
    age_max = reads (number_read_or 100_000 defaults.age_max) (codes "urgency.age.max") refl i;
  }

  server_reads : server_set pairs ≡ server_set (without name pairs)
  server_reads i = server_of (reads (read_by parts_in) (codes "sync.server.url") refl i) (reads (read_by parsed) (codes "sync.server.client_id") refl i)

  folder_reads : (taskdata home : Option (List ℕ)) → folder_set taskdata home pairs ≡ folder_set taskdata home (without name pairs)
  folder_reads (Some folder) home = refl
  folder_reads None home = reads (λ location. located location home) (codes "data.location") refl

pub empty_is_absent : EmptyIsAbsent
empty_is_absent name pairs taskdata home empty i = record {
  gc = reads name pairs empty switched (codes "gc") no_switch i;
  recurrence = reads name pairs empty switched (codes "recurrence") no_switch i;
  hooks = reads name pairs empty switched (codes "hooks") no_switch i;
  timetrack = reads name pairs empty turned_on (codes "timetrack") no_word i;
  limit = reads name pairs empty (number_read_or 100 1) (codes "recurrence.limit") refl i;
  weights = weights_read name pairs empty i;
  server = server_reads name pairs empty i;
  address = reads name pairs empty address_at (codes "sync.server.url") refl i;
  folder = folder_reads name pairs empty taskdata home i;
}
