-- The room that the map leaves is the room that the tree leaves.
use Rattle.std.proofs.Common.{◌≡◌, ℕ, zero, suc, ◌+◌, ◌-◌, ◌<◌, ◌≤◌, Bool, true, false, cond, eqb, List, [], ◌∷◌, ◌++◌, length, get_or, Some, None, sym, refl, ◌∙◌, arith}
use Rattle.std.proofs.lemmas.List.{length-append}
use Rattle.std.proofs.lemmas.Bool.{both_ways}
use Rattle.model.specs.Image.{Image, look, is_ok}
use Rattle.model.specs.Tables.{Entry, Tables, no_entry, live, used, data_sector, live_places, member}
use Rattle.model.specs.Tree.{sectors_of}
use Rattle.model.specs.Volume.{item_path, body, file_items, tree_of, free_from, free_sectors}
use Rattle.model.specs.Sound.{Shaped, ProperRow, Sound}
use Rattle.model.specs.Law.{whole, count, room}
use Rattle.model.proofs.Common.Counts.{count_add, count-member}
use Rattle.model.proofs.Tables.Places.{member-named, row-length}
use Rattle.model.proofs.Tables.Rules.{data_range, data_from, distinct_ok}

sectors-used : (ds : List Entry) (i : Image) (es : List Entry) (rs : List (List ℕ)) → whole i ≡ true → length es ≡ length rs → ((f : ℕ) → f < length es → live (get_or es f no_entry) ≡ true → ProperRow i (get_or rs f [])) → sectors_of (file_items ds i es rs) ≡ length (live_places es rs)
sectors-used ds i [] rs w l h = refl
sectors-used ds i (e ∷ es) [] w l h = refl
sectors-used ds i (e ∷ es) (r ∷ rs) w l h = go (live e) refl (sectors-used ds i es rs w (omega arith) (λ f m v. h (suc f) (omega arith) v))
  where
    go : (b : Bool) → live e ≡ b → sectors_of (file_items ds i es rs) ≡ length (live_places es rs) → sectors_of (cond b (Some (record { path = item_path ds e; bytes = body i (used r) })) None ∷ file_items ds i es rs) ≡ length (cond b (used r ++ live_places es rs) (live_places es rs))
    go true v ih = let a = row-length i r w (h 0 (omega arith) v) in let b = length-append (used r) (live_places es rs) in omega arith
    go false v ih = ih

length-free : (ms : List ℕ) (n s : ℕ) → length (free_from ms s n) ≡ count (λ s. eqb (get_or ms s 1) 0) s n
length-free ms zero s = refl
length-free ms (suc n) s = go (eqb (get_or ms s 1) 0) (length-free ms n (suc s))
  where
    go : (b : Bool) → length (free_from ms (suc s) n) ≡ count (λ s. eqb (get_or ms s 1) 0) (suc s) n → length (cond b (s ∷ free_from ms (suc s) n) (free_from ms (suc s) n)) ≡ cond b 1 0 + count (λ s. eqb (get_or ms s 1) 0) (suc s) n
    go true ih = omega arith
    go false ih = omega arith

module _ (i : Image) (t : Tables) (w : whole i ≡ true) (shaped : Shaped t) (s : Sound i t) where
  stored : (x : ℕ) → member x (live_places t.files t.rows) ≡ true → (data_sector x ≡ true) × (is_ok (look i x) ≡ true)
  stored x m =
      let n = member-named t shaped x m in
      rw n.2.3 at ((s.rows_proper n.0 (n.2.0, n.2.1)).stored n.1 n.2.2)

  mark_count : (x : ℕ) → data_sector x ≡ true → cond (is_ok (look i x)) 1 0 ≡ cond (eqb (get_or t.marks x 1) 0) 1 0 + cond (member x (live_places t.files t.rows)) 1 0
  mark_count x d = go (is_ok (look i x)) refl (member x (live_places t.files t.rows)) refl
    where
      go : (o : Bool) → is_ok (look i x) ≡ o → (m : Bool) → member x (live_places t.files t.rows) ≡ m → cond o 1 0 ≡ cond (eqb (get_or t.marks x 1) 0) 1 0 + cond m 1 0
      go true p true q = rw (s.used_marked x d p q)
      go true p false q = rw (s.free_marked x d p q)
      go false p true q = absurd (both_ways (is_ok (look i x)) p (stored x q).1)
      go false p false q = rw (s.dead_marked x d p)

  in_data : (x : ℕ) → 11 ≤ x → x < 11 + 245 → data_sector x ≡ true
  in_data x l m = data_from x l (omega arith)

  counted : (n : ℕ) → ((x : ℕ) → 11 ≤ x → x < 11 + n → data_sector x ≡ true) → ((x : ℕ) → data_sector x ≡ true → (11 ≤ x) × (x < 11 + n)) → length (free_from t.marks 11 n) ≡ count (λ x. is_ok (look i x)) 11 n - sectors_of (tree_of t i).files
  counted n h k =
      let a = count_add (λ x. is_ok (look i x)) (λ x. eqb (get_or t.marks x 1) 0) (λ x. member x (live_places t.files t.rows)) n 11 (λ x l m. mark_count x (h x l m)) in
      let b = length-free t.marks n 11 in
      let f = shaped.files_many in
      let g = shaped.rows_many in
      let d = distinct_ok i t shaped s in
      let c = count-member (live_places t.files t.rows) n 11 d (λ x m. k x (stored x m).0) in
      let e = sectors-used t.dirs i t.files t.rows w (f ∙ sym g) (λ f l v. s.rows_proper f (omega arith, v)) in
      omega arith

  pub room_agrees : length (free_sectors t) ≡ room i - sectors_of (tree_of t i).files
  room_agrees = counted 245 in_data (λ x d. let r = data_range x d in (r.0, omega arith))
