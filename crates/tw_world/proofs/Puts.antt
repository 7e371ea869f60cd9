-- The files of a folder in memory, after one more.
use Rattle.std.specs.Prelude.{cond}
use Rattle.std.proofs.Common.{◌≡◌, ◌⊎◌, ℕ, zero, suc, ◌+◌, ◌<◌, ◌≤◌, List, [], ◌∷◌, ◌++◌, map, length, take, drop, get_or, Option, Some, refl, sym, ap, subst, ◌∙◌, arith, inl, inr}
use Rattle.std.specs.Prelude.{slice_index_or}
use Rattle.std.specs.declared.cmp.Ordering.{Ordering}
use Rattle.std.specs.declared.cmp.Ordering.TheVariants.{Less, Equal, Greater}
use Rattle.std.specs.List.{insert as insert_at}
use Rattle.std.specs.FinMap.{get, insert, empty, keys, entries, get-insert, entries-insert, len-entries, len-empty}
use Rattle.std.specs.FinMap.Entries.{put, by_order}
use Rattle.std.specs.Cmp.Lexicographic.{nat_list_cmp_total, texts_ties}
use Rattle.std.proofs.lemmas.List.{take_all, take_more, drop_more, take-append-le, length_push, get_or-map}
use Rattle.std.specs.String.{string_bytes}
use Rattle.std.specs.Prelude.{String}
use Rattle.std.proofs.Common.{Global}
use Rattle.std.proofs.lemmas.Bool.{cases_eq}
use Rattle.tw_world.specs.Crash.{Steps, Reads}
use Rattle.tw_world.specs.Folder.{Files, bytes_cmp, same_bytes, Replaced, add_name}
use Rattle.tw_world.specs.MemoryFolder.{Put, after, last_put, IsPut, left_by, held_files, memory_folder_model}
use Rattle.tw_world.specs.declared.memory_folder.MemoryFolder.{MemoryFolder}

pub after-push : (puts : List Put) (files : Files) (p : Put) → after files (puts ++ p ∷ []) ≡ insert (after files puts) (string_bytes p.0) p.1.items
after-push [] files p = refl
after-push (q ∷ puts) files p = after-push puts (insert files (string_bytes q.0) q.1.items) p

pub get-after : (puts : List Put) (files : Files) (name : List ℕ) → get (after files puts) name ≡ last_put name puts (get files name)
get-after [] files name = refl
get-after (p ∷ puts) files name = get-after puts (insert files (string_bytes p.0) p.1.items) name
    ∙ ap (last_put name puts) (get-insert nat_list_cmp_total files (string_bytes p.0) p.1.items name ∙ ap (λ b. cond b (Some p.1.items) (get files name)) (sym (texts_ties name (string_bytes p.0))))

put_keys : (k v : List ℕ) (es : List (List ℕ × List ℕ)) → map (λ e. e.0) (put bytes_cmp k v es) ≡ add_name k (map (λ e. e.0) es)
put_keys k v [] = refl
put_keys k v (e ∷ es) = by_case (bytes_cmp k e.0) (put_keys k v es)
  where
    by_case : (o : Ordering) → map (λ e. e.0) (put bytes_cmp k v es) ≡ add_name k (map (λ e. e.0) es)
        → map (λ e. e.0) (by_order o ((k, v) ∷ e ∷ es) ((e.0, v) ∷ es) (e ∷ put bytes_cmp k v es)) ≡ by_order o (k ∷ e.0 ∷ map (λ e. e.0) es) (e.0 ∷ map (λ e. e.0) es) (e.0 ∷ add_name k (map (λ e. e.0) es))
    by_case Less rest = refl
    by_case Equal rest = refl
    by_case Greater rest = ap (λ ks. e.0 ∷ ks) rest

pub keys-insert : (files : Files) (name bytes : List ℕ) → keys (insert files name bytes) ≡ add_name name (keys files)
keys-insert files name bytes = ap (map (λ e. e.0)) (entries-insert nat_list_cmp_total files name bytes) ∙ put_keys name bytes (entries files)

pub map-insert_at : {A B : Type 0} (f : A → B) (xs : List A) (i : ℕ) (y : A) → map f (insert_at xs i y) ≡ insert_at (map f xs) i (f y)
map-insert_at f [] zero y = refl
map-insert_at f [] (suc i) y = refl
map-insert_at f (x ∷ xs) zero y = refl
map-insert_at f (x ∷ xs) (suc i) y = ap (λ ys. f x ∷ ys) (map-insert_at f xs i y)

-- a call that puts nothing
pub puts_nothing : (step : Files → Files → Type 0) (old new : MemoryFolder) → new.puts.items ≡ old.puts.items → old.calls.faults ≤ new.calls.faults → ((c : Files) → step c c) → Steps memory_folder_model step old new
puts_nothing step old new same faults stays = record {
  faults = faults;
  tells = refl;
  later = omega (arith, ap length same);
  images = λ tells c is. (held_files old, refl, subst (step (held_files old)) (sym (is ∙ ap (after empty) same)) (stays (held_files old)));
  nothing_else = λ tells t c le since. inl (subst (λ (l : List Put). left_by l t c) same since);
  keeps = λ tells t c le since. subst (λ (l : List Put). left_by l t c) (sym same) since;
}

pub put_leads : (name bytes : List ℕ) (old new : List Put) → IsPut name bytes old new → after empty new ≡ insert (after empty old) name bytes
put_leads name bytes old new is = ap (after empty) is.longer ∙ after-push old empty is.one ∙ ap (λ (n : List ℕ). insert (after empty old) n is.one.1.items) is.name_is ∙ ap (insert (after empty old) name) is.bytes_are

-- a call that puts one file
pub puts_one : (name bytes : List ℕ) (old new : MemoryFolder) → IsPut name bytes old.puts.items new.puts.items → old.calls.faults ≤ new.calls.faults → Steps memory_folder_model (Replaced name bytes) old new
puts_one name bytes old new is faults = record {
  faults = faults;
  tells = refl;
  later = omega (arith, grown);
  images = λ tells c same. (held_files old, refl, inr (same ∙ put_leads name bytes old.puts.items new.puts.items is));
  nothing_else = λ tells t c le since. later_or_now t c since;
  keeps = λ tells t c le since. (since.0, since.1, omega (arith, since.2, grown), since.3 ∙ ap (after empty) (sym (ap (take since.0) is.longer ∙ take-append-le since.0 old.puts.items (is.one ∷ []) since.2)));
}
  where
    grown : length new.puts.items ≡ length old.puts.items + 1
    grown = ap length is.longer ∙ length_push old.puts.items is.one

    later_or_now : (t : ℕ) (c : Files) → left_by new.puts.items t c → left_by old.puts.items t c ⊎ (c ≡ held_files new)
    later_or_now t c since = elim (cases_eq since.0 (length new.puts.items)) [
      | inl last ↦ inr (since.3 ∙ ap (after empty) (take_all since.0 new.puts.items (omega (arith, last))))
      | inr other ↦
          let le : since.0 ≤ length old.puts.items = omega (arith, grown, since.2) in
          inl (since.0, since.1, le, since.3 ∙ ap (after empty) (ap (take since.0) is.longer ∙ take-append-le since.0 old.puts.items (is.one ∷ []) le))
    ]

pub reads_only : (old new : MemoryFolder) → new.puts.items ≡ old.puts.items → old.calls.faults ≤ new.calls.faults → Reads memory_folder_model old new
reads_only old new same faults = record { steps = puts_nothing (λ d c. c ≡ d) old new same faults (λ c. refl); seen = λ tells. ap (after empty) same }

-- the loops
pub found_more : (name : List ℕ) (puts : List Put) (i : ℕ) (p : Put) (o : Option (List ℕ)) → i < length puts → p ≡ get_or puts i p → last_put name (drop i puts) o ≡ last_put name (drop (i + 1) puts) (cond (same_bytes name (string_bytes p.0)) (Some p.1.items) o)
found_more name puts i p o lt is = ap (λ (l : List Put). last_put name l o) (drop_more puts i p lt ∙ ap (λ (q : Put). q ∷ drop (i + 1) puts) (sym is))

pub named_more : (puts : List Put) (i : ℕ) (p : Put) → i < length puts → p ≡ get_or puts i p → keys (after empty (take (i + 1) puts)) ≡ add_name (string_bytes p.0) (keys (after empty (take i puts)))
named_more puts i p lt is = ap (λ (l : List Put). keys (after empty l)) (take_more puts i p lt ∙ ap (λ (q : Put). take i puts ++ q ∷ []) (sym is)) ∙ ap keys (after-push (take i puts) empty p) ∙ keys-insert (after empty (take i puts)) (string_bytes p.0) p.1.items

-- the comparison with the name at an index
pub compared_at : (names : List (String Global)) (i : ℕ) (s : String Global) (k : List ℕ) (o : Ordering) → i < length names → s ≡ get_or names i s → o ≡ bytes_cmp k (string_bytes s) → bytes_cmp k (slice_index_or (map string_bytes names) i []) ≡ o
compared_at names i s k o lt is cmp = ap (bytes_cmp k) (get_or-map string_bytes names i s [] lt ∙ ap string_bytes (sym is)) ∙ sym cmp

pub none_named : [] ≡ keys (empty {X = List ℕ} {R = bytes_cmp})
none_named = ap (map (λ e. e.0)) (sym (no_entries (entries empty) (sym (len-entries empty) ∙ len-empty bytes_cmp (List ℕ))))
  where
    no_entries : (es : List (List ℕ × List ℕ)) → length es ≡ 0 → es ≡ []
    no_entries [] none = refl
    no_entries (e ∷ es) none = absurd (omega arith)
