-- Soundness as a test and rule by rule, each from the other.
use Rattle.std.proofs.Common.{◌≡◌, ℕ, zero, suc, ◌+◌, ◌-◌, ◌<◌, ◌≤◌, Bool, true, false, cond, not, ◌&&◌, ◌||◌, eqb, ltb, leb, ◌⊎◌, List, [], ◌∷◌, ◌++◌, length, get_or, drop, sym, refl, ap, ◌∙◌, subst, inl, inr, arith}
use Rattle.std.proofs.lemmas.List.{get_or-append-add, get_or_append_left, get_or-append_right, get_or-drop, get_or_past, length-append, length-drop}
use Rattle.std.proofs.lemmas.Bool.{and_from, and_parts, both_ways, cases_lt, cases_order, eq-eqb, eqb-true, le-leb, le-ltb, leb-true, lt-ltb, ltb-false, ltb-true, not_from_false, not-true, or_left, or_right, false_from_ne_true}
use Rattle.model.specs.Image.{Image, look, is_ok}
use Rattle.model.specs.Names.{same_name, proper_name, padded}
use Rattle.model.specs.Tables.{sound, all, root, Entry, Tables, each, no_entry, live, trimmed, used, data_sector, live_places, member, distinct, alive, mark_of, marks_right, live_dir, well_named, proper_entry, climbs, same_place, unshared, proper_row, proper_rows}
use Rattle.model.specs.Volume.{row}
use Rattle.model.specs.Sound.{Shaped, Live, Proper, ProperRow, Sound}
use Rattle.model.proofs.Common.Tests.{implied, all-holds, all_from, each_holds, each_from}
use Rattle.model.proofs.Naming.Same.{same_name_true, same_name_refl, eq_same_name}
use Rattle.model.proofs.Tables.Places.{used-at, live_places_is, distinct_apart, distinct-places}

-- the rules from the test --------------------------------------------------------------------------

pub record Parts (i : Image) (t : Tables) : Type 0 where
  pub marked : marks_right (alive i) t ≡ true
  pub dirs : all (proper_entry t.dirs) t.dirs ≡ true
  pub files : all (proper_entry t.dirs) t.files ≡ true
  pub climb : each 0 32 (λ d. not (live_dir t.dirs d) || climbs t.dirs 32 d) ≡ true
  pub apart : unshared (t.dirs ++ t.files) ≡ true
  pub rows : proper_rows (alive i) t.files t.rows ≡ true
  pub places : distinct (live_places t.files t.rows) ≡ true

seven_parts : (a b c d e f g : Bool) → (a && (b && c) && d && e && (f && g)) ≡ true → (a ≡ true) × (b ≡ true) × (c ≡ true) × (d ≡ true) × (e ≡ true) × (f ≡ true) × (g ≡ true)
seven_parts a b c d e f g h =
    let p = and_parts (a && (b && c) && d && e) (f && g) h in
    let q = and_parts (a && (b && c) && d) e p.0 in
    let r = and_parts (a && (b && c)) d q.0 in
    let s = and_parts a (b && c) r.0 in
    let u = and_parts b c s.1 in
    let v = and_parts f g p.1 in
    (s.0, u.0, u.1, r.1, q.1, v.0, v.1)

seven_from : (a b c d e f g : Bool) → a ≡ true → b ≡ true → c ≡ true → d ≡ true → e ≡ true → f ≡ true → g ≡ true → (a && (b && c) && d && e && (f && g)) ≡ true
seven_from a b c d e f g p q r o u v w =
    and_from (a && (b && c) && d && e) (f && g) (and_from (a && (b && c) && d) e (and_from (a && (b && c)) d (and_from a (b && c) p (and_from b c q r)) o) u) (and_from f g v w)

pub parts : (i : Image) (t : Tables) → sound i t ≡ true → Parts i t
parts i t s =
    let h = seven_parts (marks_right (alive i) t) (all (proper_entry t.dirs) t.dirs) (all (proper_entry t.dirs) t.files) (each 0 32 (λ d. not (live_dir t.dirs d) || climbs t.dirs 32 d)) (unshared (t.dirs ++ t.files)) (proper_rows (alive i) t.files t.rows) (distinct (live_places t.files t.rows)) s in
    record { marked = h.0; dirs = h.1; files = h.2; climb = h.3; apart = h.4; rows = h.5; places = h.6 }

marks-at : (i : Image) (t : Tables) → marks_right (alive i) t ≡ true → (s : ℕ) → s < 512 → get_or t.marks s 1 ≡ mark_of (alive i) t s
marks-at i t m s l = eqb-true (get_or t.marks s 1) (mark_of (alive i) t s) (each_holds 512 0 (λ s. eqb (get_or t.marks s 1) (mark_of (alive i) t s)) m s (omega arith) (omega arith))

pub data_range : (s : ℕ) → data_sector s ≡ true → (11 ≤ s) × (s ≤ 255)
data_range s e = let a = and_parts (leb 11 s) (leb s 255) e in (leb-true 11 s a.0, leb-true s 255 a.1)

pub data_from : (s : ℕ) → 11 ≤ s → s ≤ 255 → data_sector s ≡ true
data_from s l m = and_from (leb 11 s) (leb s 255) (le-leb 11 s l) (le-leb s 255 m)

mark_low : (i : Image) (t : Tables) (s : ℕ) → s < 11 → mark_of (alive i) t s ≡ 0xff
mark_low i t s l = rw (lt-ltb s 11 l)

mark_high : (i : Image) (t : Tables) (s : ℕ) → 0xff < s → mark_of (alive i) t s ≡ 0
mark_high i t s l = rw (le-ltb s 11 (omega arith), lt-ltb 255 s l)

mark_data : (i : Image) (t : Tables) (s : ℕ) → data_sector s ≡ true → mark_of (alive i) t s ≡ cond (not (is_ok (look i s))) 0xfe (cond (member s (live_places t.files t.rows)) 0xff 0x00)
mark_data i t s e = let r = data_range s e in rw (le-ltb s 11 r.0, le-ltb 255 s r.1)

pub live_dir-live : (ds : List Entry) (d : ℕ) → live_dir ds d ≡ true → Live ds d
live_dir-live ds d e = let a = and_parts (ltb d 32) (live (get_or ds d no_entry)) e in (ltb-true d 32 a.0, a.1)

live-live_dir : (ds : List Entry) (d : ℕ) → Live ds d → live_dir ds d ≡ true
live-live_dir ds d l = and_from (ltb d 32) (live (get_or ds d no_entry)) (lt-ltb d 32 l.0) l.1

pub held-from : (ds : List Entry) (d : ℕ) → (eqb d root || live_dir ds d) ≡ true → (d ≡ root) ⊎ Live ds d
held-from ds d e = go (eqb d root) refl e
  where
    go : (b : Bool) → eqb d root ≡ b → (b || live_dir ds d) ≡ true → (d ≡ root) ⊎ Live ds d
    go true h e = inl (eqb-true d root h)
    go false h e = inr (live_dir-live ds d e)

proper_from : (ds : List Entry) (e : Entry) → proper_entry ds e ≡ true → live e ≡ true → Proper ds e
proper_from ds e p l =
    let a : (well_named e && (eqb e.parent root || live_dir ds e.parent)) ≡ true = rw l at p in
    let b = and_parts (well_named e) (eqb e.parent root || live_dir ds e.parent) a in
    let c = and_parts (proper_name (trimmed e.name)) (same_name e.name (padded (trimmed e.name))) b.0 in
    record { named = c.0; filled = same_name_true e.name (padded (trimmed e.name)) c.1; held = held-from ds e.parent b.1 }

unshared-at : (xs : List Entry) → unshared xs ≡ true → (j k : ℕ) → j < k → k < length xs → same_place (get_or xs j no_entry) (get_or xs k no_entry) ≡ false
unshared-at [] u j k l m = absurd (omega arith)
unshared-at (x ∷ xs) u j zero l m = absurd (omega arith)
unshared-at (x ∷ xs) u zero (suc k) l m = not-true (same_place x (get_or xs k no_entry)) (all-holds (λ f. not (same_place x f)) no_entry xs (and_parts (all (λ f. not (same_place x f)) xs) (unshared xs) u).0 k (omega arith))
unshared-at (x ∷ xs) u (suc j) (suc k) l m = unshared-at xs (and_parts (all (λ f. not (same_place x f)) xs) (unshared xs) u).1 j k (omega arith) (omega arith)

place_shared : (e f : Entry) → live e ≡ true → live f ≡ true → e.parent ≡ f.parent → e.name ≡ f.name → same_place e f ≡ true
place_shared e f l m p n = and_from (live e && live f && eqb e.parent f.parent) (same_name e.name f.name) (and_from (live e && live f) (eqb e.parent f.parent) (and_from (live e) (live f) l m) (eq-eqb e.parent f.parent p)) (eq_same_name e.name f.name n)

entries-apart : (xs : List Entry) → unshared xs ≡ true → (j k : ℕ) → j < length xs → k < length xs → live (get_or xs j no_entry) ≡ true → live (get_or xs k no_entry) ≡ true → (get_or xs j no_entry).parent ≡ (get_or xs k no_entry).parent → (get_or xs j no_entry).name ≡ (get_or xs k no_entry).name → j ≡ k
entries-apart xs u j k l m a b p n = go (cases_order j k)
  where
    go : ((j ≡ k) ⊎ ((j < k) ⊎ (k < j))) → j ≡ k
    go (inl e) = e
    go (inr (inl h)) = absurd (both_ways _ (unshared-at xs u j k h m) (place_shared (get_or xs j no_entry) (get_or xs k no_entry) a b p n))
    go (inr (inr h)) = absurd (both_ways _ (unshared-at xs u k j h l) (place_shared (get_or xs k no_entry) (get_or xs j no_entry) b a (sym p) (sym n)))

entries-apart-at : (xs : List Entry) → unshared xs ≡ true → (j k : ℕ) → j < length xs → k < length xs → (x y : Entry) → get_or xs j no_entry ≡ x → get_or xs k no_entry ≡ y → live x ≡ true → live y ≡ true → x.parent ≡ y.parent → x.name ≡ y.name → j ≡ k
entries-apart-at xs u j k l m x y q r a b p n = entries-apart xs u j k l m (ap live q ∙ a) (ap live r ∙ b) (ap (λ e. e.parent) q ∙ p ∙ sym (ap (λ e. e.parent) r)) (ap (λ e. e.name) q ∙ n ∙ sym (ap (λ e. e.name) r))

rooted-at : (ds : List Entry) (n : ℕ) → each 0 32 (λ d. not (live_dir ds d) || climbs ds n d) ≡ true → (d : ℕ) → Live ds d → climbs ds n d ≡ true
rooted-at ds n e d l = implied (live_dir ds d) (climbs ds n d) (live-live_dir ds d l) (each_holds 32 0 (λ d. not (live_dir ds d) || climbs ds n d) e d (omega arith) (let z = l.0 in omega arith))

rows_at : (i : Image) (es : List Entry) (rs : List (List ℕ)) → proper_rows (alive i) es rs ≡ true → (f : ℕ) → f < length es → f < length rs → live (get_or es f no_entry) ≡ true → proper_row (alive i) (get_or rs f []) ≡ true
rows_at i [] rs p f l m v = absurd (omega arith)
rows_at i (e ∷ es) [] p f l m v = absurd (omega arith)
rows_at i (e ∷ es) (r ∷ rs) p zero l m v = let a = (and_parts (not (live e) || proper_row (alive i) r) (proper_rows (alive i) es rs) p).0 in rw v at a
rows_at i (e ∷ es) (r ∷ rs) p (suc f) l m v = rows_at i es rs (and_parts (not (live e) || proper_row (alive i) r) (proper_rows (alive i) es rs) p).1 f (omega arith) (omega arith) v

rest_zero : (n : ℕ) (r : List ℕ) → all (λ s. eqb s 0) (drop n r) ≡ true → (j : ℕ) → n ≤ j → get_or r j 0 ≡ 0
rest_zero n r a j l = go (cases_lt j (length r))
  where
    go : ((j < length r) ⊎ (length r ≤ j)) → get_or r j 0 ≡ 0
    go (inr h) = get_or_past r j 0 h
    go (inl h) =
        let k : j - n < length (drop n r) = simp length-drop (omega arith) in
        let z = eqb-true (get_or (drop n r) (j - n) 0) 0 (all-holds (λ s. eqb s 0) 0 (drop n r) a (j - n) k) in
        let q : n + (j - n) ≡ j = omega arith in
        rw q at (sym (get_or-drop n r (j - n) 0) ∙ z)

row_proper : (i : Image) (r : List ℕ) → proper_row (alive i) r ≡ true → ProperRow i r
row_proper i r p =
    let a = and_parts (leb 1 (length (used r)) && all (λ s. data_sector s && is_ok (look i s)) (used r)) (all (λ s. eqb s 0) (drop (length (used r)) r)) p in
    let b = and_parts (leb 1 (length (used r))) (all (λ s. data_sector s && is_ok (look i s)) (used r)) a.0 in
    record {
      some_used = leb-true 1 (length (used r)) b.0;
      stored = λ j l. rw (used-at r j l) at (and_parts (data_sector (get_or (used r) j 0)) (is_ok (look i (get_or (used r) j 0))) (all-holds (λ s. data_sector s && is_ok (look i s)) 0 (used r) b.1 j l));
      rest = rest_zero (length (used r)) r a.1;
    }

module _ (t : Tables) (shaped : Shaped t) where
  dirs_left : (d : ℕ) → d < 32 → get_or (t.dirs ++ t.files) d no_entry ≡ get_or t.dirs d no_entry
  dirs_left d l = let z = shaped.dirs_many in get_or_append_left t.dirs t.files no_entry d (omega arith)

module _ (i : Image) (t : Tables) (shaped : Shaped t) (p : Parts i t) where
  files_right : (f : ℕ) → get_or (t.dirs ++ t.files) (length t.dirs + f) no_entry ≡ get_or t.files f no_entry
  files_right f = get_or-append-add t.dirs t.files f no_entry

  both_long : length (t.dirs ++ t.files) ≡ 64
  both_long = let y = shaped.dirs_many in let z = shaped.files_many in simp length-append (omega arith)

  pub facts : Sound i t
  facts = record {
    reserved = λ s l. marks-at i t p.marked s (omega arith) ∙ mark_low i t s l;
    beyond = λ s l m. marks-at i t p.marked s (omega arith) ∙ mark_high i t s l;
    dead_marked = λ s e k. marks-at i t p.marked s (let r = data_range s e in omega arith) ∙ mark_data i t s e ∙ rw k;
    used_marked = λ s e k m. marks-at i t p.marked s (let r = data_range s e in omega arith) ∙ mark_data i t s e ∙ rw (k, m);
    free_marked = λ s e k m. marks-at i t p.marked s (let r = data_range s e in omega arith) ∙ mark_data i t s e ∙ rw (k, m);
    dirs_proper = λ d l. proper_from t.dirs (get_or t.dirs d no_entry) (all-holds (proper_entry t.dirs) no_entry t.dirs p.dirs d (let z = shaped.dirs_many in let y = l.0 in omega arith)) l.1;
    files_proper = λ d l. proper_from t.dirs (get_or t.files d no_entry) (all-holds (proper_entry t.dirs) no_entry t.files p.files d (let z = shaped.files_many in let y = l.0 in omega arith)) l.1;
    rooted = λ d l. rooted-at t.dirs 32 p.climb d l;
    dirs_apart = λ d e l m a b. entries-apart-at (t.dirs ++ t.files) p.apart d e (let y = both_long in let u = l.0 in let v = m.0 in let w = shaped.dirs_many in omega arith) (let y = both_long in let u = l.0 in let v = m.0 in let w = shaped.dirs_many in omega arith) (get_or t.dirs d no_entry) (get_or t.dirs e no_entry) (dirs_left t shaped d l.0) (dirs_left t shaped e m.0) l.1 m.1 a b;
    files_apart = λ f g l m a b. let q = entries-apart-at (t.dirs ++ t.files) p.apart (length t.dirs + f) (length t.dirs + g) (let y = both_long in let u = l.0 in let v = m.0 in let w = shaped.dirs_many in omega arith) (let y = both_long in let u = l.0 in let v = m.0 in let w = shaped.dirs_many in omega arith) (get_or t.files f no_entry) (get_or t.files g no_entry) (files_right f) (files_right g) l.1 m.1 a b in omega arith;
    kinds_apart = λ d f l m a b. let q = entries-apart-at (t.dirs ++ t.files) p.apart d (length t.dirs + f) (let y = both_long in let u = l.0 in let v = m.0 in let w = shaped.dirs_many in omega arith) (let y = both_long in let u = l.0 in let v = m.0 in let w = shaped.dirs_many in omega arith) (get_or t.dirs d no_entry) (get_or t.files f no_entry) (dirs_left t shaped d l.0) (files_right f) l.1 m.1 a b in let u = l.0 in let w = shaped.dirs_many in omega arith;
    rows_proper = λ f l. row_proper i (row t f) (rows_at i t.files t.rows p.rows f (let z = shaped.files_many in let y = l.0 in omega arith) (let z = shaped.rows_many in let y = l.0 in omega arith) l.1);
    places_apart = λ f j g k s m n. distinct_apart live t.files t.rows (sym (ap distinct (live_places_is t.files t.rows)) ∙ p.places) f j g k s (let z = shaped.files_many in let y = m.0 in omega arith, m.1, m.2, m.3) (let z = shaped.files_many in let y = n.0 in omega arith, n.1, n.2, n.3);
  }

-- the test from the rules --------------------------------------------------------------------------

module _ (i : Image) (t : Tables) (s : Sound i t) where
  mark_right : (k : ℕ) → k < 512 → get_or t.marks k 1 ≡ mark_of (alive i) t k
  mark_right k l = go (ltb k 0x0b) refl (ltb 0xff k) refl (is_ok (look i k)) refl (member k (live_places t.files t.rows)) refl
    where
      between : ltb k 0x0b ≡ false → ltb 0xff k ≡ false → data_sector k ≡ true
      between p q = data_from k (ltb-false k 0x0b p) (ltb-false 0xff k q)

      go : (a : Bool) → ltb k 0x0b ≡ a → (b : Bool) → ltb 0xff k ≡ b → (c : Bool) → is_ok (look i k) ≡ c → (m : Bool) → member k (live_places t.files t.rows) ≡ m → get_or t.marks k 1 ≡ cond a 0xff (cond b 0x00 (cond (not c) 0xfe (cond m 0xff 0x00)))
      go true p b q c r m o = s.reserved k (ltb-true k 0x0b p)
      go false p true q c r m o = s.beyond k (ltb-true 0xff k q) l
      go false p false q false r m o = s.dead_marked k (between p q) r
      go false p false q true r true o = s.used_marked k (between p q) r o
      go false p false q true r false o = s.free_marked k (between p q) r o

  marks_ok : marks_right (alive i) t ≡ true
  marks_ok = each_from 512 0 (λ k. eqb (get_or t.marks k 1) (mark_of (alive i) t k)) (λ k a b. eq-eqb (get_or t.marks k 1) (mark_of (alive i) t k) (mark_right k (omega arith)))

entry_ok : (ds : List Entry) (e : Entry) → (live e ≡ true → Proper ds e) → proper_entry ds e ≡ true
entry_ok ds e h = go (live e) refl
  where
    held_ok : (e.parent ≡ root) ⊎ Live ds e.parent → (eqb e.parent root || live_dir ds e.parent) ≡ true
    held_ok (inl q) = or_left (eqb e.parent root) (live_dir ds e.parent) (eq-eqb e.parent root q)
    held_ok (inr l) = or_right (eqb e.parent root) (live_dir ds e.parent) (live-live_dir ds e.parent l)

    named_ok : Proper ds e → well_named e ≡ true
    named_ok p = and_from (proper_name (trimmed e.name)) (same_name e.name (padded (trimmed e.name))) p.named (subst (λ x. same_name e.name x ≡ true) p.filled (same_name_refl e.name))

    go : (b : Bool) → live e ≡ b → (not b || (well_named e && (eqb e.parent root || live_dir ds e.parent))) ≡ true
    go true q = let p = h q in and_from (well_named e) (eqb e.parent root || live_dir ds e.parent) (named_ok p) (held_ok p.held)
    go false q = refl

unshared-from : (es : List Entry) → ((j k : ℕ) → j < k → k < length es → same_place (get_or es j no_entry) (get_or es k no_entry) ≡ true → ⊥) → unshared es ≡ true
unshared-from [] h = refl
unshared-from (e ∷ es) h =
    and_from (all (λ f. not (same_place e f)) es) (unshared es)
    (all_from (λ f. not (same_place e f)) es no_entry (λ k l. not_from_false (same_place e (get_or es k no_entry)) (false_from_ne_true (same_place e (get_or es k no_entry)) (h 0 (suc k) (omega arith) (omega arith)))))
    (unshared-from es (λ j k l m. h (suc j) (suc k) (omega arith) (omega arith)))

same_parts : (e f : Entry) → same_place e f ≡ true → (live e ≡ true) × (live f ≡ true) × (e.parent ≡ f.parent) × (e.name ≡ f.name)
same_parts e f h =
    let u = and_parts (live e && live f && eqb e.parent f.parent) (same_name e.name f.name) h in
    let v = and_parts (live e && live f) (eqb e.parent f.parent) u.0 in
    let w = and_parts (live e) (live f) v.0 in
    (w.0, w.1, eqb-true e.parent f.parent v.1, same_name_true e.name f.name u.1)

row_ok : (i : Image) (r : List ℕ) → ProperRow i r → proper_row (alive i) r ≡ true
row_ok i r p =
    and_from (leb 1 (length (used r)) && all (λ s. data_sector s && is_ok (look i s)) (used r)) (all (λ s. eqb s 0) (drop (length (used r)) r))
    (and_from (leb 1 (length (used r))) (all (λ s. data_sector s && is_ok (look i s)) (used r)) (le-leb 1 (length (used r)) p.some_used)
    (all_from (λ s. data_sector s && is_ok (look i s)) (used r) 0 (λ k l. subst (λ s. (data_sector s && is_ok (look i s)) ≡ true) (sym (used-at r k l)) (let u = p.stored k l in and_from (data_sector (get_or r k 0)) (is_ok (look i (get_or r k 0))) u.0 u.1))))
    (all_from (λ s. eqb s 0) (drop (length (used r)) r) 0 (λ k l. eq-eqb (get_or (drop (length (used r)) r) k 0) 0 (get_or-drop (length (used r)) r k 0 ∙ p.rest (length (used r) + k) (omega arith))))

rows_ok : (i : Image) (es : List Entry) (rs : List (List ℕ)) → ((k : ℕ) → k < length es → live (get_or es k no_entry) ≡ true → ProperRow i (get_or rs k [])) → proper_rows (alive i) es rs ≡ true
rows_ok i [] rs h = refl
rows_ok i (e ∷ es) [] h = refl
rows_ok i (e ∷ es) (r ∷ rs) h = and_from (not (live e) || proper_row (alive i) r) (proper_rows (alive i) es rs) (go (live e) refl) (rows_ok i es rs (λ k l. h (suc k) (omega arith)))
  where
    go : (b : Bool) → live e ≡ b → (not b || proper_row (alive i) r) ≡ true
    go true q = row_ok i r (h 0 (omega arith) q)
    go false q = refl

module _ (i : Image) (t : Tables) (shaped : Shaped t) (s : Sound i t) where
  dirs_ok : all (proper_entry t.dirs) t.dirs ≡ true
  dirs_ok = all_from (proper_entry t.dirs) t.dirs no_entry (λ k l. entry_ok t.dirs (get_or t.dirs k no_entry) (λ v. s.dirs_proper k (omega (arith, shaped.dirs_many), v)))

  files_ok : all (proper_entry t.dirs) t.files ≡ true
  files_ok = all_from (proper_entry t.dirs) t.files no_entry (λ k l. entry_ok t.dirs (get_or t.files k no_entry) (λ v. s.files_proper k (omega (arith, shaped.files_many), v)))

  rooted_ok : (n : ℕ) → ((d : ℕ) → Live t.dirs d → climbs t.dirs n d ≡ true) → each 0 32 (λ d. not (live_dir t.dirs d) || climbs t.dirs n d) ≡ true
  rooted_ok n up = each_from 32 0 (λ d. not (live_dir t.dirs d) || climbs t.dirs n d) (λ d a b. go d (live_dir t.dirs d) refl)
    where
      go : (d : ℕ) (b : Bool) → live_dir t.dirs d ≡ b → (not b || climbs t.dirs n d) ≡ true
      go d true q = up d (live_dir-live t.dirs d q)
      go d false q = refl

  in_files : (j : ℕ) → 32 ≤ j → get_or (t.dirs ++ t.files) j no_entry ≡ get_or t.files (j - 32) no_entry
  in_files j l = get_or-append_right t.dirs t.files 32 j no_entry shaped.dirs_many l

  shared : (j k : ℕ) → j < k → k < 64 → same_place (get_or (t.dirs ++ t.files) j no_entry) (get_or (t.dirs ++ t.files) k no_entry) ≡ true → ⊥
  shared j k l m h = go (cases_lt j 32) (cases_lt k 32)
    where
      both : (e f : Entry) → get_or (t.dirs ++ t.files) j no_entry ≡ e → get_or (t.dirs ++ t.files) k no_entry ≡ f → (live e ≡ true) × (live f ≡ true) × (e.parent ≡ f.parent) × (e.name ≡ f.name)
      both e f p q = same_parts e f (subst (λ x. same_place x f ≡ true) p (subst (λ x. same_place (get_or (t.dirs ++ t.files) j no_entry) x ≡ true) q h))

      go : (j < 32) ⊎ (32 ≤ j) → (k < 32) ⊎ (32 ≤ k) → ⊥
      go (inl a) (inl b) =
          let u = both (get_or t.dirs j no_entry) (get_or t.dirs k no_entry) (dirs_left t shaped j a) (dirs_left t shaped k b) in
          let e = s.dirs_apart j k (a, u.0) (b, u.1) u.2 u.3 in omega (arith, e)
      go (inl a) (inr b) =
          let u = both (get_or t.dirs j no_entry) (get_or t.files (k - 32) no_entry) (dirs_left t shaped j a) (in_files k b) in
          s.kinds_apart j (k - 32) (a, u.0) (omega arith, u.1) u.2 u.3
      go (inr a) (inl b) = omega arith
      go (inr a) (inr b) =
          let u = both (get_or t.files (j - 32) no_entry) (get_or t.files (k - 32) no_entry) (in_files j a) (in_files k b) in
          let e = s.files_apart (j - 32) (k - 32) (omega arith, u.0) (omega arith, u.1) u.2 u.3 in omega (arith, e)

  unshared_ok : unshared (t.dirs ++ t.files) ≡ true
  unshared_ok = unshared-from (t.dirs ++ t.files) (λ j k l m. shared j k l (omega (arith, length-append t.dirs t.files, shaped.dirs_many, shaped.files_many)))

  proper_ok : proper_rows (alive i) t.files t.rows ≡ true
  proper_ok = rows_ok i t.files t.rows (λ k l v. s.rows_proper k (omega (arith, shaped.files_many), v))

  pub distinct_ok : distinct (live_places t.files t.rows) ≡ true
  distinct_ok = subst (λ x. distinct x ≡ true) (sym (live_places_is t.files t.rows))
      (distinct-places live t.files t.rows (λ f j g k x n m. s.places_apart f j g k x (omega (arith, n.0, shaped.files_many), n.1, n.2, n.3) (omega (arith, m.0, shaped.files_many), m.1, m.2, m.3)))

  pub all_sound : sound i t ≡ true
  all_sound = seven_from (marks_right (alive i) t) (all (proper_entry t.dirs) t.dirs) (all (proper_entry t.dirs) t.files) (each 0 32 (λ d. not (live_dir t.dirs d) || climbs t.dirs 32 d)) (unshared (t.dirs ++ t.files)) (proper_rows (alive i) t.files t.rows) (distinct (live_places t.files t.rows))
      (marks_ok i t s) dirs_ok files_ok (rooted_ok 32 s.rooted) unshared_ok proper_ok distinct_ok
