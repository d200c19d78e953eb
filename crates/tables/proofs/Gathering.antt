-- The sectors that the rows of live files claim, file after file.
use Rattle.std.proofs.Common.{◌≡◌, ℕ, ◌<◌, Bool, true, false, cond, not, ◌&&◌, ◌||◌, eqb, leb, List, [], ◌∷◌, ◌++◌, length, drop, replicate, sym, refl, ap, ◌∙◌, ap₂, subst, ◌⊎◌, inl, inr, arith}
use mathlib.Core.Bool.{and-true, or-false}
use Rattle.std.proofs.lemmas.List.{get_or-replicate}
use Rattle.std.proofs.lemmas.Bool.{and_parts}
use Rattle.model.specs.Sizes.{blank}
use Rattle.model.specs.Tables.{Tables, Entry, all, live, used, data_sector, live_places, member, distinct, proper_row, proper_rows}
use Rattle.model.proofs.Common.Members.{member-append}
use Rattle.model.proofs.Tables.Rules.{data_range}
use Rattle.tables.specs.Rules.{told, unclaimed, Claimed, rows_sound}
use Rattle.tables.specs.declared.types.Entry.{Entry as CodeEntry}
use Rattle.tables.specs.declared.types.Row.{Row}
use Rattle.tables.specs.declared.types.Tables.{Tables as CodeTables}
use Rattle.tables.specs.Views.{entry_view, entries_view, rows_view, view}
use Rattle.tables.proofs.Bools.{or_swap, and_cross, all_join, all_weaker}
use Rattle.tables.proofs.Claiming.{free-append}

-- what the rows of live files are tested for, from the first on
abbrev left : (ℕ → Bool) → (ℕ → Bool) → List Entry → List (List ℕ) → Bool
left lives c es rs = proper_rows lives es rs && unclaimed c (live_places es rs)

left_step : (lives c : ℕ → Bool) (e : Entry) (es : List Entry) (r : List ℕ) (rs : List (List ℕ)) → left lives c (e ∷ es) (r ∷ rs) ≡ cond (live e) ((proper_row lives r && unclaimed c (used r)) && left lives (λ x. member x (used r) || c x) es rs) (left lives c es rs)
left_step lives c e es r rs = go (live e)
  where
    go : (b : Bool) → (((not b || proper_row lives r) && proper_rows lives es rs) && unclaimed c (cond b (used r ++ live_places es rs) (live_places es rs))) ≡ cond b ((proper_row lives r && unclaimed c (used r)) && left lives (λ x. member x (used r) || c x) es rs) (left lives c es rs)
    go true = ap (λ f. (proper_row lives r && proper_rows lives es rs) && f) (free-append c (used r) (live_places es rs)) ∙ and_cross (proper_row lives r) (proper_rows lives es rs) (unclaimed c (used r)) (unclaimed (λ x. member x (used r) || c x) (live_places es rs))
    go false = refl

places-step : (x : ℕ) (c : Bool) (e : Entry) (es : List Entry) (r : List ℕ) (rs : List (List ℕ)) → (member x (live_places (e ∷ es) (r ∷ rs)) || c) ≡ cond (live e) (member x (live_places es rs) || (member x (used r) || c)) (member x (live_places es rs) || c)
places-step x c e es r rs = go (live e)
  where
    go : (b : Bool) → (member x (cond b (used r ++ live_places es rs) (live_places es rs)) || c) ≡ cond b (member x (live_places es rs) || (member x (used r) || c)) (member x (live_places es rs) || c)
    go true = ap (λ b. b || c) (member-append x (used r) (live_places es rs)) ∙ sym (or_swap (member x (live_places es rs)) (member x (used r)) c)
    go false = refl

-- the sectors of proper rows are data sectors
places_data : (lives : ℕ → Bool) (es : List Entry) (rs : List (List ℕ)) → proper_rows lives es rs ≡ true → all (λ s. data_sector s && lives s) (live_places es rs) ≡ true
places_data lives [] rs h = refl
places_data lives (e ∷ es) [] h = refl
places_data lives (e ∷ es) (r ∷ rs) h = go (live e) (and_parts (not (live e) || proper_row lives r) (proper_rows lives es rs) h).0 (places_data lives es rs (and_parts (not (live e) || proper_row lives r) (proper_rows lives es rs) h).1)
  where
    go : (b : Bool) → (not b || proper_row lives r) ≡ true → all (λ s. data_sector s && lives s) (live_places es rs) ≡ true → all (λ s. data_sector s && lives s) (cond b (used r ++ live_places es rs) (live_places es rs)) ≡ true
    go true p ih =
        let a = (and_parts (leb 1 (length (used r)) && all (λ s. data_sector s && lives s) (used r)) (all (λ s. eqb s blank) (drop (length (used r)) r)) p).0 in
        let b = (and_parts (leb 1 (length (used r))) (all (λ s. data_sector s && lives s) (used r)) a).1 in
        all_join (λ s. data_sector s && lives s) (used r) (live_places es rs) ∙ ap₂ (λ x y. x && y) b ih
    go false p ih = ih

-- before any row is claimed
left_start : (lives c : ℕ → Bool) (es : List Entry) (rs : List (List ℕ)) → ((s : ℕ) → data_sector s ≡ true → c s ≡ false) → left lives c es rs ≡ (proper_rows lives es rs && distinct (live_places es rs))
left_start lives c es rs none = go (proper_rows lives es rs) refl
  where
    open_to : (s : ℕ) → (data_sector s && lives s) ≡ true → not (c s) ≡ true
    open_to s e = ap not (none s (and_parts (data_sector s) (lives s) e).0)

    go : (b : Bool) → proper_rows lives es rs ≡ b → (b && unclaimed c (live_places es rs)) ≡ (b && distinct (live_places es rs))
    go true e = ap (λ a. distinct (live_places es rs) && a) (all_weaker (λ s. data_sector s && lives s) (λ s. not (c s)) open_to (live_places es rs) (places_data lives es rs e)) ∙ and-true (distinct (live_places es rs))
    go false e = refl

cons_not_nil : {A : Type 0} {x : A} {xs : List A} → x ∷ xs ≡ [] → ⊥
cons_not_nil e = cc

-- the rows of some files have claimed their sectors: the others, es with the rows rs, give the answer, and add what is
-- still to be claimed
pub record Gathers (lives : ℕ → Bool) (t : Tables) (c : List Bool) (es : List Entry) (rs : List (List ℕ)) : Type 0 where
  pub gives : left lives (told c) es rs ≡ rows_sound lives t
  pub adds : (x : ℕ) → x < 256 → (member x (live_places es rs) || told c x) ≡ member x (live_places t.files t.rows)

-- all files are left
pub none_claimed : (lives : ℕ → Bool) (t : CodeTables) (fs : List CodeEntry) (rs : List Row) → fs ≡ t.files → rs ≡ t.rows → Gathers lives (view t) (replicate 256 false) (entries_view fs) (rows_view rs)
none_claimed lives t fs rs p q = subst (λ (xs : List CodeEntry). Gathers lives (view t) (replicate 256 false) (entries_view xs) (rows_view rs)) (sym p) (subst (λ (ys : List Row). Gathers lives (view t) (replicate 256 false) (view t).files (rows_view ys)) (sym q) (start 256 refl))
  where
    start : (n : ℕ) → n ≡ 256 → Gathers lives (view t) (replicate n false) (view t).files (view t).rows
    start n e = record {
      gives = left_start lives (told (replicate n false)) (view t).files (view t).rows (λ x d. get_or-replicate n x false true (let h = data_range x d in omega arith));
      adds = λ x l. ap (λ b. member x (live_places (view t).files (view t).rows) || b) (get_or-replicate n x false true (omega arith)) ∙ or-false (member x (live_places (view t).files (view t).rows));
    }

module _ (lives : ℕ → Bool) (t : Tables) where
  -- no file or no row is left
  pub all_claimed : (c : List Bool) (fs : List CodeEntry) (rs : List Row) → (fs ≡ []) ⊎ (rs ≡ []) → Gathers lives t c (entries_view fs) (rows_view rs) → (rows_sound lives t ≡ true) × Claimed t c
  all_claimed c [] rs e k = (sym k.gives, k.adds)
  all_claimed c (f ∷ fs) [] e k = (sym k.gives, k.adds)
  all_claimed c (f ∷ fs) (r ∷ rs) (inl e) k = absurd (cons_not_nil e)
  all_claimed c (f ∷ fs) (r ∷ rs) (inr e) k = absurd (cons_not_nil e)

  -- a file and its row are next
  pub next_file : (c : List Bool) (fs gs : List CodeEntry) (f : CodeEntry) (rs ss : List Row) (r : Row) → fs ≡ f ∷ gs → rs ≡ r ∷ ss → Gathers lives t c (entries_view fs) (rows_view rs) → Gathers lives t c (entry_view f ∷ entries_view gs) (r.places ∷ rows_view ss)
  next_file c fs gs f rs ss r p q k = subst (λ (xs : List CodeEntry). Gathers lives t c (entries_view xs) (r.places ∷ rows_view ss)) p (subst (λ (ys : List Row). Gathers lives t c (entries_view fs) (rows_view ys)) q k)

-- the next file, with the entry e and the row r
module _ (lives : ℕ → Bool) (t : Tables) (c : List Bool) (e : Entry) (es : List Entry) (r : List ℕ) (rs : List (List ℕ)) (k : Gathers lives t c (e ∷ es) (r ∷ rs)) where
  gives_on : (b : Bool) → live e ≡ b → cond b ((proper_row lives r && unclaimed (told c) (used r)) && left lives (λ x. member x (used r) || told c x) es rs) (left lives (told c) es rs) ≡ rows_sound lives t
  gives_on b v =
      ap (λ x. cond x ((proper_row lives r && unclaimed (told c) (used r)) && left lives (λ x. member x (used r) || told c x) es rs) (left lives (told c) es rs)) (sym v)
      ∙ sym (left_step lives (told c) e es r rs)
      ∙ k.gives

  adds_on : (b : Bool) → live e ≡ b → (x : ℕ) → x < 256 → cond b (member x (live_places es rs) || (member x (used r) || told c x)) (member x (live_places es rs) || told c x) ≡ member x (live_places t.files t.rows)
  adds_on b v x l =
      ap (λ y. cond y (member x (live_places es rs) || (member x (used r) || told c x)) (member x (live_places es rs) || told c x)) (sym v)
      ∙ sym (places-step x (told c x) e es r rs)
      ∙ k.adds x l

  pub row_claims : live e ≡ true → (proper_row lives r && unclaimed (told c) (used r)) ≡ true → (d : List Bool) → ((x : ℕ) → told d x ≡ (member x (used r) || told c x)) → Gathers lives t d es rs
  row_claims v h d claims = record {
    gives = ap₂ (λ (b : Bool) (f : ℕ → Bool). b && left lives f es rs) (sym h) (λ j x. claims x j) ∙ gives_on true v;
    adds = λ x l. ap (λ b. member x (live_places es rs) || b) (claims x) ∙ adds_on true v x l;
  }

  pub row_refused : live e ≡ true → (proper_row lives r && unclaimed (told c) (used r)) ≡ false → rows_sound lives t ≡ false
  row_refused v h = sym (gives_on true v) ∙ ap (λ b. b && left lives (λ x. member x (used r) || told c x) es rs) h
