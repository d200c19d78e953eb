-- Marks, files and rows: what a new file and what a removal keep.
use Rattle.std.proofs.Common.{◌≡◌, ℕ, ◌<◌, ◌≤◌, Bool, true, false, ◌⊎◌, List, [], length, get_or, set, sym, refl, ap, ◌∙◌, subst, inl, inr, arith}
use Rattle.std.proofs.lemmas.List.{get_or-set_other, get_or-set_same}
use Rattle.std.proofs.lemmas.Bool.{both_ways, cases_Bool, cases_eq, false_from_ne_true}
use Rattle.model.specs.Image.{Image, look, is_ok}
use Rattle.model.specs.Tables.{Entry, Tables, no_entry, live, used, data_sector, live_places, member, distinct}
use Rattle.model.specs.Volume.{marked}
use Rattle.model.specs.Sound.{Shaped, Live, ProperRow, Sound}
use Rattle.model.proofs.Common.Members.{member-at, at-member, distinct-at}
use Rattle.model.proofs.Tables.Chains.{climbs-within}
use Rattle.model.proofs.Tables.Places.{used-at, marked_in, marked_out, named-member, member-named}
use Rattle.model.proofs.Tables.Rules.{data_range}
use Rattle.model.proofs.Calls.Entries.{at, Treed, Rest}

-- place j of the row of file f is used, and names s
abbrev pub Site : List Entry → List (List ℕ) → ℕ → ℕ → ℕ → Type 0
Site fs rs f j s = (f < 32) × (live (at fs f) ≡ true) × (j < length (used (get_or rs f []))) × (get_or (get_or rs f []) j 0 ≡ s)

pub record Rowed (i : Image) (ms : List ℕ) (fs : List Entry) (rs : List (List ℕ)) : Type 0 where
  pub reserved : (s : ℕ) → s < 0x0b → get_or ms s 1 ≡ 0xff
  pub beyond : (s : ℕ) → 0xff < s → s < 512 → get_or ms s 1 ≡ 0x00
  pub dead_marked : (s : ℕ) → data_sector s ≡ true → is_ok (look i s) ≡ false → get_or ms s 1 ≡ 0xfe
  pub used_marked : (s f j : ℕ) → data_sector s ≡ true → is_ok (look i s) ≡ true → Site fs rs f j s → get_or ms s 1 ≡ 0xff
  pub free_marked : (s : ℕ) → data_sector s ≡ true → is_ok (look i s) ≡ true → ((f j : ℕ) → Site fs rs f j s → ⊥) → get_or ms s 1 ≡ 0x00
  pub rows_proper : (f : ℕ) → Live fs f → ProperRow i (get_or rs f [])
  pub places_apart : (f j g k s : ℕ) → Site fs rs f j s → Site fs rs g k s → (f ≡ g) × (j ≡ k)

-- from the facts and back ---------------------------------------------------------------------------

module _ (i : Image) (t : Tables) (shaped : Shaped t) where
  pub treed_from : Sound i t → Treed t.dirs t.files
  treed_from s =
      record { dirs_proper = s.dirs_proper; files_proper = s.files_proper; rooted = λ d l. (32, s.rooted d l); dirs_apart = s.dirs_apart; files_apart = s.files_apart; kinds_apart = s.kinds_apart }

  pub rowed_from : Sound i t → Rowed i t.marks t.files t.rows
  rowed_from s =
      record {
        reserved = s.reserved;
        beyond = s.beyond;
        dead_marked = s.dead_marked;
        used_marked = λ x f j d o n. s.used_marked x d o (named-member t shaped f j x n);
        free_marked = λ x d o none. s.free_marked x d o (false_from_ne_true (member x (live_places t.files t.rows)) (λ m. let q = member-named t shaped x m in none q.0 q.1 q.2));
        rows_proper = s.rows_proper;
        places_apart = s.places_apart;
      }

  pub sound-from : Treed t.dirs t.files → Rowed i t.marks t.files t.rows → Sound i t
  sound-from d r =
      record {
        reserved = r.reserved;
        beyond = r.beyond;
        dead_marked = r.dead_marked;
        used_marked = λ x p o m. let q = member-named t shaped x m in r.used_marked x q.0 q.1 p o q.2;
        free_marked = λ x p o m. r.free_marked x p o (λ f j n. both_ways (member x (live_places t.files t.rows)) m (named-member t shaped f j x n));
        dirs_proper = d.dirs_proper;
        files_proper = d.files_proper;
        rooted = λ x l. let u = d.rooted x l in climbs-within t.dirs u.0 x 32 (the_same) u.1;
        dirs_apart = d.dirs_apart;
        files_apart = d.files_apart;
        kinds_apart = d.kinds_apart;
        rows_proper = r.rows_proper;
        places_apart = r.places_apart;
      }
    where
      the_same : 32 ≤ 32
      the_same = omega arith

-- a site's sector is a data sector, and alive
site_stored : (i : Image) (ms : List ℕ) (fs : List Entry) (rs : List (List ℕ)) → Rowed i ms fs rs → (f j s : ℕ) → Site fs rs f j s → (data_sector s ≡ true) × (is_ok (look i s) ≡ true)
site_stored i ms fs rs r f j s n = let u = (r.rows_proper f (n.0, n.1)).stored j n.2 in (subst (λ x. data_sector x ≡ true) n.3 u.0, subst (λ x. is_ok (look i x) ≡ true) n.3 u.1)

-- the same files are live ----------------------------------------------------------------------------

module _ (i : Image) (ms : List ℕ) (fs fs' : List Entry) (rs : List (List ℕ)) (same : (f : ℕ) → live (at fs' f) ≡ live (at fs f)) where
  back : (f j s : ℕ) → Site fs' rs f j s → Site fs rs f j s
  back f j s n = (n.0, sym (same f) ∙ n.1, n.2, n.3)

  forth : (f j s : ℕ) → Site fs rs f j s → Site fs' rs f j s
  forth f j s n = (n.0, same f ∙ n.1, n.2, n.3)

  pub rowed_same : Rowed i ms fs rs → Rowed i ms fs' rs
  rowed_same r =
      record {
        reserved = r.reserved;
        beyond = r.beyond;
        dead_marked = r.dead_marked;
        used_marked = λ s f j d o n. r.used_marked s f j d o (back f j s n);
        free_marked = λ s d o none. r.free_marked s d o (λ f j n. none f j (forth f j s n));
        rows_proper = λ f l. r.rows_proper f (l.0, sym (same f) ∙ l.1);
        places_apart = λ f j g k s n m. r.places_apart f j g k s (back f j s n) (back g k s m);
      }

-- files taken out ------------------------------------------------------------------------------------

module _ (i : Image) (ms : List ℕ) (fs fs' : List Entry) (rs : List (List ℕ)) (long : length ms ≡ 512) (r : Rowed i ms fs rs) (rest : Rest fs fs')
    (out : List ℕ)
    (out-from : (s : ℕ) → member s out ≡ true → (f : ℕ) × (j : ℕ) × Site fs rs f j s × (live (at fs' f) ≡ false))
    (out-has : (f j s : ℕ) → Site fs rs f j s → live (at fs' f) ≡ false → member s out ≡ true) where
  left_site : (f j s : ℕ) → Site fs' rs f j s → Site fs rs f j s
  left_site f j s n = (n.0, (rest f (n.0, n.1)).0.1, n.2, n.3)

  out_data : (s : ℕ) → member s out ≡ true → (data_sector s ≡ true) × (is_ok (look i s) ≡ true)
  out_data s m = let q = out-from s m in site_stored i ms fs rs r q.0 q.1 s q.2

  keeps : (s : ℕ) → (member s out ≡ true → ⊥) → get_or (marked out 0 ms) s 1 ≡ get_or ms s 1
  keeps s h = marked_out out 0 ms s (false_from_ne_true (member s out) h)

  site_out : (f j s : ℕ) → Site fs' rs f j s → member s out ≡ true → ⊥
  site_out f j s n m =
      let q = out-from s m in
      let e = r.places_apart f j q.0 q.1 s (left_site f j s n) q.2 in
      both_ways (live (at fs' q.0)) q.3 (subst (λ x. live (at fs' x) ≡ true) e.0 n.1)

  freed_mark : (s : ℕ) → data_sector s ≡ true → is_ok (look i s) ≡ true → ((f j : ℕ) → Site fs' rs f j s → ⊥) → (member s out ≡ true) ⊎ (member s out ≡ false) → get_or (marked out 0 ms) s 1 ≡ 0
  freed_mark s d o none (inl m) = marked_in out 0 ms s (let u = data_range s d in omega (arith, u.1, long)) (inl m)
  freed_mark s d o none (inr m) = marked_out out 0 ms s m ∙ r.free_marked s d o (λ f j n. go f j n (live (at fs' f)) refl)
    where
      go : (f j : ℕ) → Site fs rs f j s → (b : Bool) → live (at fs' f) ≡ b → ⊥
      go f j n true e = none f j (n.0, e, n.2, n.3)
      go f j n false e = both_ways (member s out) m (out-has f j s n e)

  pub rowed_less : Rowed i (marked out 0 ms) fs' rs
  rowed_less =
      record {
        reserved = λ s l. keeps s (λ m. let u = data_range s (out_data s m).0 in omega (arith, u.0, l)) ∙ r.reserved s l;
        beyond = λ s l k. keeps s (λ m. let u = data_range s (out_data s m).0 in omega (arith, u.1, l)) ∙ r.beyond s l k;
        dead_marked = λ s d o. keeps s (λ m. both_ways (is_ok (look i s)) o (out_data s m).1) ∙ r.dead_marked s d o;
        used_marked = λ s f j d o n. keeps s (site_out f j s n) ∙ r.used_marked s f j d o (left_site f j s n);
        free_marked = λ s d o none. freed_mark s d o none (cases_Bool (member s out));
        rows_proper = λ f l. r.rows_proper f (rest f l).0;
        places_apart = λ f j g k s n m. r.places_apart f j g k s (left_site f j s n) (left_site g k s m);
      }

-- a new file ------------------------------------------------------------------------------------------

module _ (i : Image) (ms : List ℕ) (fs : List Entry) (rs : List (List ℕ)) (long : length ms ≡ 512) (many : length fs ≡ 32) (rows_many : length rs ≡ 32) (r : Rowed i ms fs rs)
    (n : ℕ) (small : n < 32) (free : live (at fs n) ≡ false) (e : Entry) (lives : live e ≡ true)
    (ss new : List ℕ) (new-used : used new ≡ ss) (new-proper : ProperRow i new) (apart : distinct ss ≡ true)
    (taken : (s : ℕ) → member s ss ≡ true → (get_or ms s 1 ≡ 0) × (data_sector s ≡ true) × (is_ok (look i s) ≡ true)) where
  abbrev fs₁ : List Entry
  fs₁ = set fs n e

  abbrev rs₁ : List (List ℕ)
  rs₁ = set rs n new

  row_new : get_or rs₁ n [] ≡ new
  row_new = get_or-set_same rs n new [] (subst (λ m. n < m) (sym rows_many) small)

  row_old : (f : ℕ) → (f ≡ n → ⊥) → get_or rs₁ f [] ≡ get_or rs f []
  row_old f ne = get_or-set_other rs n f new [] ne

  file_new : at fs₁ n ≡ e
  file_new = get_or-set_same fs n e no_entry (subst (λ m. n < m) (sym many) small)

  file_old : (f : ℕ) → (f ≡ n → ⊥) → at fs₁ f ≡ at fs f
  file_old f ne = get_or-set_other fs n f e no_entry ne

  -- a place after is of the new row, or an old one
  abbrev Whose : ℕ → ℕ → ℕ → Type 0
  Whose f j s = ((f ≡ n) × (j < length ss) × (get_or ss j 0 ≡ s)) ⊎ ((f ≡ n → ⊥) × Site fs rs f j s)

  new-place : (j s : ℕ) → j < length (used new) → get_or new j 0 ≡ s → (j < length ss) × (get_or ss j 0 ≡ s)
  new-place j s l q = (subst (λ x. j < length x) new-used l, ap (λ x. get_or x j 0) (sym new-used) ∙ (used-at new j l ∙ q))

  whose : (f j s : ℕ) → Site fs₁ rs₁ f j s → Whose f j s
  whose f j s m = go (cases_eq f n)
    where
      go : (f ≡ n) ⊎ (f ≡ n → ⊥) → Whose f j s
      go (inl q) =
          let w : get_or rs₁ f [] ≡ new = ap (λ x. get_or rs₁ x []) q ∙ row_new in
          let p = new-place j s (subst (λ x. j < length (used x)) w m.2) (ap (λ x. get_or x j 0) (sym w) ∙ m.3) in
          inl (q, p.0, p.1)
      go (inr q) = inr (q, (m.0, ap live (sym (file_old f q)) ∙ m.1, subst (λ x. j < length (used x)) (row_old f q) m.2, ap (λ x. get_or x j 0) (sym (row_old f q)) ∙ m.3))

  old_site : (f j s : ℕ) → Site fs rs f j s → Site fs₁ rs₁ f j s
  old_site f j s m =
      let q : f ≡ n → ⊥ = λ p. both_ways (live (at fs f)) (subst (λ x. live (at fs x) ≡ false) (sym p) free) m.1 in
      (m.0, ap live (file_old f q) ∙ m.1, subst (λ x. j < length (used x)) (sym (row_old f q)) m.2, ap (λ x. get_or x j 0) (row_old f q) ∙ m.3)

  new_site : (j s : ℕ) → j < length ss → get_or ss j 0 ≡ s → Site fs₁ rs₁ n j s
  new_site j s l q =
      let l₁ : j < length (used new) = subst (λ x. j < length x) (sym new-used) l in
      (small, ap live file_new ∙ lives, subst (λ x. j < length (used x)) (sym row_new) l₁, ap (λ x. get_or x j 0) row_new ∙ (sym (used-at new j l₁) ∙ (ap (λ x. get_or x j 0) new-used ∙ q)))

  still : (s : ℕ) → (member s ss ≡ true → ⊥) → get_or (marked ss 0xff ms) s 1 ≡ get_or ms s 1
  still s h = marked_out ss 0xff ms s (false_from_ne_true (member s ss) h)

  in_map : (s : ℕ) → data_sector s ≡ true → s < length ms
  in_map s d = let u = data_range s d in omega (arith, u.1, long)

  mark_used : (s f j : ℕ) → data_sector s ≡ true → is_ok (look i s) ≡ true → Whose f j s → get_or (marked ss 0xff ms) s 1 ≡ 0xff
  mark_used s f j d o (inl w) = marked_in ss 0xff ms s (in_map s d) (inl (at-member ss j s w.1 w.2))
  mark_used s f j d o (inr w) = marked_in ss 0xff ms s (in_map s d) (inr (r.used_marked s f j d o w.1))

  never : (f j s : ℕ) → Site fs rs f j s → member s ss ≡ true → ⊥
  never f j s m q =
      let u = taken s q in
      let v = r.used_marked s f j u.1 u.2 m in
      zero_full (get_or ms s 1) u.0 v
    where
      zero_full : (a : ℕ) → a ≡ 0 → a ≡ 0xff → ⊥
      zero_full a p q = omega arith

  pub rowed_more : Rowed i (marked ss 0xff ms) fs₁ rs₁
  rowed_more =
      record {
        reserved = λ s l. still s (λ m. let u = data_range s (taken s m).1 in omega (arith, u.0, l)) ∙ r.reserved s l;
        beyond = λ s l k. still s (λ m. let u = data_range s (taken s m).1 in omega (arith, u.1, l)) ∙ r.beyond s l k;
        dead_marked = λ s d o. still s (λ m. both_ways (is_ok (look i s)) o (taken s m).2) ∙ r.dead_marked s d o;
        used_marked = λ s f j d o m. mark_used s f j d o (whose f j s m);
        free_marked = λ s d o none. still s (λ m. let q = member-at s ss m in none n q.0 (new_site q.0 s q.1 q.2)) ∙ r.free_marked s d o (λ f j m. none f j (old_site f j s m));
        rows_proper = λ f l. proper f l (cases_eq f n);
        places_apart = λ f j g k s a b. one f j g k s (whose f j s a) (whose g k s b);
      }
    where
      proper : (f : ℕ) → Live fs₁ f → (f ≡ n) ⊎ (f ≡ n → ⊥) → ProperRow i (get_or rs₁ f [])
      proper f l (inl q) = subst (ProperRow i) (sym (ap (λ x. get_or rs₁ x []) q ∙ row_new)) new-proper
      proper f l (inr q) = subst (ProperRow i) (sym (row_old f q)) (r.rows_proper f (l.0, ap live (sym (file_old f q)) ∙ l.1))

      one : (f j g k s : ℕ) → Whose f j s → Whose g k s → (f ≡ g) × (j ≡ k)
      one f j g k s (inl a) (inl b) = (a.0 ∙ sym b.0, distinct-at ss apart j k a.1 b.1 (a.2 ∙ sym b.2))
      one f j g k s (inl a) (inr b) = absurd (never g k s b.1 (at-member ss j s a.1 a.2))
      one f j g k s (inr a) (inl b) = absurd (never f j s a.1 (at-member ss k s b.1 b.2))
      one f j g k s (inr a) (inr b) = r.places_apart f j g k s a.1 b.1
