-- What move does to the tree.
use Rattle.std.proofs.Common.{◌≡◌, ℕ, zero, suc, ◌<◌, ◌≤◌, true, false, ◌&&◌, ◌⊎◌, List, [], ◌∷◌, ◌++◌, length, get_or, set, Some, None, Option, sym, refl, ap, ◌∙◌, subst, ap₂, inl, inr, arith}
use Rattle.std.proofs.lemmas.List.{get_or-set_other, get_or-set_same, length-set}
use Rattle.std.proofs.lemmas.Bool.{and_parts, both_ways, cases_eq, eq-eqb, false≢true, ne_eqb}
use Rattle.model.specs.Image.{Image, look, writes}
use Rattle.model.specs.Refusals.{inside, lost, misspelt, start, taken, move, picked}
use Rattle.model.specs.Names.{names, spelt, Path, within}
use Rattle.model.specs.Tables.{root, Entry, Tables, no_entry, live, trimmed, used, climbs}
use Rattle.model.specs.Tree.{Kind, directory, file, is_some, carried, moved}
use Rattle.model.specs.History.{change}
use Rattle.model.specs.Volume.{is_dir, named, climb, item_path, body, dir_items, file_items, tree_of, checks, starts, leads, new_entry, renamed, tables_after, dirs_write, files_write, entry_write, sector_writes}
use Rattle.model.specs.Sound.{Shaped, Live, Sound}
use Rattle.model.proofs.Store.Writes.{data_kept}
use Rattle.model.proofs.Naming.Same.{within_same, within_nil, within_deeper, within-up, shift, shift_self, shift_off, shift_push}
use Rattle.model.proofs.Tables.Chains.{climbs-within}
use Rattle.model.proofs.Tables.Climbs.{Place, up, Step, climbs_cases, climbs_more, climb-root, climb-up, climb_fuel, same-climb, place-climbs, climb-live}
use Rattle.model.proofs.Tables.Walks.{live_at, found, Fresh, fresh-entry, not-inside}
use Rattle.model.proofs.Tables.Ways.{climb-kept, climbs-kept, top_nil}
use Rattle.model.proofs.Trees.Items.{dir_item, file_item, from_start}
use Rattle.model.proofs.Trees.Keeps.{carried-not, dirs-one, files-one, kinds_two, rows_same, body_kept}
use Rattle.model.proofs.Trees.Slots.{same_tree, it_same, it_there, carried_it, dirs-map, files-map}
use Rattle.model.proofs.Calls.Checks.{pass, pass_not}

module _ (i : Image) (t : Tables) (shaped : Shaped t) (s : Sound i t) where
  -- a directory
  module _ (x : ℕ) (lx : Live t.dirs x) (e : Entry) (q : Path) (f : Fresh t.dirs e q) (apart : within (climb t.dirs 32 x) (climb t.dirs 32 e.parent) ≡ false) where
    abbrev from : Path
    from = climb t.dirs 32 x

    abbrev after : List Entry
    after = set t.dirs x e

    in_list : x < length t.dirs
    in_list = let a = lx.0 in let b = shaped.dirs_many in omega arith

    kept : (k : ℕ) → Live t.dirs k → within from (climb t.dirs 32 k) ≡ false → (get_or after k no_entry ≡ get_or t.dirs k no_entry) × (within from (climb t.dirs 32 (get_or t.dirs k no_entry).parent) ≡ false)
    kept k l h = (
      get_or-set_other t.dirs x k e no_entry (λ z. both_ways (within from (climb t.dirs 32 k)) h (ap (λ y. within from (climb t.dirs 32 y)) z ∙ within_same from)),
      within-up from (climb t.dirs 32 (get_or t.dirs k no_entry).parent) (trimmed (get_or t.dirs k no_entry).name) (ap (within from) (sym (climb-live i t s k l)) ∙ h),
    )

    holder-climb : climb after 32 e.parent ≡ climb t.dirs 32 e.parent
    holder-climb = climb-kept t.dirs after (λ k. within from (climb t.dirs 32 k) ≡ false) kept 32 e.parent (place-climbs i t s e.parent f.placed) apart

    holder-climbs : climbs after 32 e.parent ≡ true
    holder-climbs = climbs-kept t.dirs after (λ k. within from (climb t.dirs 32 k) ≡ false) kept 32 e.parent (place-climbs i t s e.parent f.placed) apart

    new-path : item_path after e ≡ q
    new-path = ap (λ c. c ++ trimmed e.name ∷ []) holder-climb ∙ f.path

    abbrev Way : ℕ → ℕ → Type 0
    Way n k = (m : ℕ) × (climbs after m k ≡ true) × (climb after m k ≡ shift from q (climb t.dirs n k))

    at-root : shift from q [] ≡ []
    at-root = shift_off from q [] (top_nil i t s x lx)

    at_itself : (n k : ℕ) → k ≡ x → climbs t.dirs n k ≡ true → (k ≡ root → ⊥) → Live t.dirs k → Way n k
    at_itself n k z c nr l = (
      suc 32,
      climbs_more after 32 k (l.0, ap live here ∙ f.lives) (subst (λ (y : Entry). climbs after 32 y.parent ≡ true) (sym here) holder-climbs),
      climb-up after 32 k (ne_eqb k root nr)
          ∙ ap (item_path after) here
          ∙ new-path
          ∙ sym (shift_self from q)
          ∙ ap (shift from q) (climb_fuel t.dirs 32 n x (s.rooted x lx) (subst (λ y. climbs t.dirs n y ≡ true) z c) ∙ ap (climb t.dirs n) (sym z)),
    )
      where
        here : get_or after k no_entry ≡ e
        here = ap (λ y. get_or after y no_entry) z ∙ get_or-set_same t.dirs x e no_entry in_list

    way_up : (n k : ℕ) → climbs t.dirs n k ≡ true → Way n k
    way_up zero k c = (zero, c, sym at-root)
    way_up (suc n) k c = go (λ y a. way_up n y a) (climbs_cases t.dirs n k c) (cases_eq k x)
      where
        go : ((y : ℕ) → climbs t.dirs n y ≡ true → Way n y) → Step t.dirs n k → (k ≡ x) ⊎ (k ≡ x → ⊥) → Way (suc n) k
        go ih (inl r) z = (zero, eq-eqb k root r, sym (ap (shift from q) (ap (climb t.dirs (suc n)) r ∙ climb-root t.dirs (suc n)) ∙ at-root))
        go ih (inr r) (inl z) = at_itself (suc n) k z c r.0 r.1
        go ih (inr r) (inr z) =
            let w = ih (up t.dirs k) r.2 in (
              suc w.0,
              climbs_more after w.0 k (r.1.0, ap live same ∙ r.1.1) (subst (λ (y : Entry). climbs after w.0 y.parent ≡ true) (sym same) w.1),
              climb-up after w.0 k (ne_eqb k root r.0)
                  ∙ ap (λ (y : Entry). climb after w.0 y.parent ++ trimmed y.name ∷ []) same
                  ∙ ap (λ c. c ++ trimmed (get_or t.dirs k no_entry).name ∷ []) w.2
                  ∙ sym (shift_push from q (climb t.dirs n (up t.dirs k)) (trimmed (get_or t.dirs k no_entry).name) (λ h. z (sym (same-climb i t s 32 (suc n) x k (s.rooted x lx) c (h ∙ sym one_up)))))
                  ∙ ap (shift from q) (sym one_up),
            )
          where
            same : get_or after k no_entry ≡ get_or t.dirs k no_entry
            same = get_or-set_other t.dirs x k e no_entry z

            one_up : climb t.dirs (suc n) k ≡ climb t.dirs n (up t.dirs k) ++ trimmed (get_or t.dirs k no_entry).name ∷ []
            one_up = climb-up t.dirs n k (ne_eqb k root r.0)

    place_shift : (k : ℕ) → Place t.dirs k → climb after 32 k ≡ shift from q (climb t.dirs 32 k)
    place_shift k p =
        let w = way_up 32 k (place-climbs i t s k p) in
        climb_fuel after 32 w.0 k (climbs-within after w.0 k 32 (omega arith) w.1) w.1 ∙ w.2

    path_shift : (y : Entry) → Place t.dirs y.parent → (from ≡ item_path t.dirs y → ⊥) → item_path after y ≡ shift from q (item_path t.dirs y)
    path_shift y p ne = ap (λ c. c ++ trimmed y.name ∷ []) (place_shift y.parent p) ∙ sym (shift_push from q (climb t.dirs 32 y.parent) (trimmed y.name) ne)

    dir_slot : (k : ℕ) → k < length t.dirs → (k ≡ x) ⊎ (k ≡ x → ⊥) → dir_item after (get_or after k no_entry) ≡ carried from q (dir_item t.dirs (get_or t.dirs k no_entry))
    dir_slot k l (inl z) =
        ap (dir_item after) (ap (λ y. get_or after y no_entry) z ∙ get_or-set_same t.dirs x e no_entry in_list)
        ∙ it_there (live e) (item_path after e) q [] [] f.lives new-path refl
        ∙ sym (it_there (live (get_or t.dirs k no_entry)) (shift from q (item_path t.dirs (get_or t.dirs k no_entry))) q [] [] (ap (λ y. live (get_or t.dirs y no_entry)) z ∙ lx.1) (ap (shift from q) (ap (λ y. item_path t.dirs (get_or t.dirs y no_entry)) z ∙ sym (climb-live i t s x lx)) ∙ shift_self from q) refl)
        ∙ sym (carried_it from q (live (get_or t.dirs k no_entry)) (item_path t.dirs (get_or t.dirs k no_entry)) [])
    dir_slot k l (inr z) =
        ap (dir_item after) (get_or-set_other t.dirs x k e no_entry z)
        ∙ it_same (live (get_or t.dirs k no_entry)) (item_path after (get_or t.dirs k no_entry)) (shift from q (item_path t.dirs (get_or t.dirs k no_entry))) [] []
        (λ v. let m = live_at t.dirs shaped.dirs_many k l v in path_shift (get_or t.dirs k no_entry) (s.dirs_proper k m).held (λ h. z (sym (dirs-one i t shaped s x k lx m (sym (climb-live i t s x lx) ∙ h))))) (λ v. refl)
        ∙ sym (carried_it from q (live (get_or t.dirs k no_entry)) (item_path t.dirs (get_or t.dirs k no_entry)) [])

    dirs-moved : dir_items after after ≡ moved from q (dir_items t.dirs t.dirs)
    dirs-moved = dirs-map t.dirs after t.dirs after (length-set t.dirs x e) (carried from q) (λ k l. dir_slot k l (cases_eq k x))

    beneath-moved : (j : Image) → ((r : ℕ) → r ≤ 255 → look j r ≡ look i r) → file_items after j t.files t.rows ≡ moved from q (file_items t.dirs i t.files t.rows)
    beneath-moved j h = files-map t.dirs after i j t.files t.files t.rows t.rows refl (rows_same i t shaped s) (rows_same i t shaped s) (carried from q)
        (λ k l. it_same (live (get_or t.files k no_entry)) (item_path after (get_or t.files k no_entry)) (shift from q (item_path t.dirs (get_or t.files k no_entry))) (body j (used (get_or t.rows k []))) (body i (used (get_or t.rows k [])))
        (λ v. let m = live_at t.files shaped.files_many k l v in path_shift (get_or t.files k no_entry) (s.files_proper k m).held (λ z. kinds_two i t shaped s x k lx m (sym (climb-live i t s x lx) ∙ z)))
        (λ v. body_kept i t shaped s j h k (live_at t.files shaped.files_many k l v))
        ∙ sym (carried_it from q (live (get_or t.files k no_entry)) (item_path t.dirs (get_or t.files k no_entry)) (body i (used (get_or t.rows k [])))))

  -- a file
  module _ (x : ℕ) (lx : Live t.files x) (e : Entry) (q : Path) (f : Fresh t.dirs e q) where
    abbrev leaf : Path
    leaf = item_path t.dirs (get_or t.files x no_entry)

    leaf_nil : within leaf [] ≡ false
    leaf_nil = within_nil (climb t.dirs 32 (get_or t.files x no_entry).parent) (trimmed (get_or t.files x no_entry).name)

    never : (n k : ℕ) → climbs t.dirs n k ≡ true → within leaf (climb t.dirs n k) ≡ false
    never zero k c = leaf_nil
    never (suc n) k c = go (λ y a. never n y a) (climbs_cases t.dirs n k c)
      where
        go : ((y : ℕ) → climbs t.dirs n y ≡ true → within leaf (climb t.dirs n y) ≡ false) → Step t.dirs n k → within leaf (climb t.dirs (suc n) k) ≡ false
        go ih (inl r) = ap (within leaf) (ap (climb t.dirs (suc n)) r ∙ climb-root t.dirs (suc n)) ∙ leaf_nil
        go ih (inr r) =
            ap (within leaf) one_up
            ∙ within_deeper leaf (climb t.dirs n (up t.dirs k)) (trimmed (get_or t.dirs k no_entry).name) (λ h. kinds_two i t shaped s k x r.1 lx (sym (climb-live i t s k r.1) ∙ climb_fuel t.dirs 32 (suc n) k (s.rooted k r.1) c ∙ one_up ∙ sym h))
            ∙ ih (up t.dirs k) r.2
          where
            one_up : climb t.dirs (suc n) k ≡ climb t.dirs n (up t.dirs k) ++ trimmed (get_or t.dirs k no_entry).name ∷ []
            one_up = climb-up t.dirs n k (ne_eqb k root r.0)

    dirs_still : dir_items t.dirs t.dirs ≡ moved leaf q (dir_items t.dirs t.dirs)
    dirs_still = dirs-map t.dirs t.dirs t.dirs t.dirs refl (carried leaf q)
        (λ k l. sym (carried-not leaf q (live (get_or t.dirs k no_entry)) (item_path t.dirs (get_or t.dirs k no_entry)) [] (λ v. let m = live_at t.dirs shaped.dirs_many k l v in shift_off leaf q (item_path t.dirs (get_or t.dirs k no_entry)) (ap (within leaf) (sym (climb-live i t s k m)) ∙ never 32 k (s.rooted k m)))))

    slot : (j : Image) → ((r : ℕ) → r ≤ 255 → look j r ≡ look i r) → (k : ℕ) → k < length t.files → (k ≡ x) ⊎ (k ≡ x → ⊥) → file_item t.dirs j (get_or (set t.files x e) k no_entry) (get_or t.rows k []) ≡ carried leaf q (file_item t.dirs i (get_or t.files k no_entry) (get_or t.rows k []))
    slot j h k l (inl z) =
        let v = ap (λ y. live (get_or t.files y no_entry)) z ∙ lx.1 in
        ap (λ y. file_item t.dirs j y (get_or t.rows k [])) (ap (λ y. get_or (set t.files x e) y no_entry) z ∙ get_or-set_same t.files x e no_entry (subst (λ y. y < length t.files) z l))
        ∙ it_there (live e) (item_path t.dirs e) q (body j (used (get_or t.rows k []))) (body i (used (get_or t.rows k []))) f.lives f.path (body_kept i t shaped s j h k (live_at t.files shaped.files_many k l v))
        ∙ sym (it_there (live (get_or t.files k no_entry)) (shift leaf q (item_path t.dirs (get_or t.files k no_entry))) q (body i (used (get_or t.rows k []))) (body i (used (get_or t.rows k []))) v (ap (λ y. shift leaf q (item_path t.dirs (get_or t.files y no_entry))) z ∙ shift_self leaf q) refl)
        ∙ sym (carried_it leaf q (live (get_or t.files k no_entry)) (item_path t.dirs (get_or t.files k no_entry)) (body i (used (get_or t.rows k []))))
    slot j h k l (inr z) =
        ap (λ y. file_item t.dirs j y (get_or t.rows k [])) (get_or-set_other t.files x k e no_entry z)
        ∙ it_same (live (get_or t.files k no_entry)) (item_path t.dirs (get_or t.files k no_entry)) (item_path t.dirs (get_or t.files k no_entry)) (body j (used (get_or t.rows k []))) (body i (used (get_or t.rows k []))) (λ v. refl) (λ v. body_kept i t shaped s j h k (live_at t.files shaped.files_many k l v))
        ∙ sym (carried-not leaf q (live (get_or t.files k no_entry)) (item_path t.dirs (get_or t.files k no_entry)) (body i (used (get_or t.rows k [])))
        (λ v. let m = live_at t.files shaped.files_many k l v in
        shift_off leaf q (item_path t.dirs (get_or t.files k no_entry))
        (within_deeper leaf (climb t.dirs 32 (get_or t.files k no_entry).parent) (trimmed (get_or t.files k no_entry).name) (λ y. z (sym (files-one i t shaped s x k lx m y)))
        ∙ never 32 (get_or t.files k no_entry).parent (place-climbs i t s (get_or t.files k no_entry).parent (s.files_proper k m).held))))

    files-moved : (j : Image) → ((r : ℕ) → r ≤ 255 → look j r ≡ look i r) → file_items t.dirs j (set t.files x e) t.rows ≡ moved leaf q (file_items t.dirs i t.files t.rows)
    files-moved j h =
        let m = length-set t.files x e in
        files-map t.dirs t.dirs i j t.files (set t.files x e) t.rows t.rows m (rows_same i t shaped s) (m ∙ rows_same i t shaped s) (carried leaf q) (λ k l. slot j h k l (cases_eq k x))

  abbrev Moved : ℕ → List ℕ → List ℕ → Option (Kind × ℕ) → Type 0
  Moved d p q o = tree_of (renamed t o (new_entry t d q)) (writes (entry_write o (renamed t o (new_entry t d q)) ∷ []) i).image ≡ change (tree_of t i) (move d p q)

  pub move_follows : (d : ℕ) (p q : List ℕ) → picked (checks t i (move d p q)) ≡ None → tree_of (tables_after t (move d p q)) (writes (sector_writes t (move d p q) (tables_after t (move d p q))) i).image ≡ change (tree_of t i) (move d p q)
  move_follows d p q acc =
      let a = pass_not (spelt p && spelt q) misspelt _ acc in
      let b = pass_not (starts t d) start _ a.1 in
      let c = pass_not (is_some (named t d p) && leads t d q) lost _ b.1 in
      let g = pass (is_some (named t d q)) taken _ c.1 in
      let h = pass (is_dir (named t d p) && within (names p) (names q)) inside _ g.1 in
      let sp = and_parts (spelt p) (spelt q) a.0 in
      let le = and_parts (is_some (named t d p)) (leads t d q) c.0 in
      let st = b.0 in
      go sp.0 sp.1 st le.1 (named t d p) refl le.0 h.0
    where
      dir_case : spelt p ≡ true → spelt q ≡ true → starts t d ≡ true → leads t d q ≡ true → (x : ℕ) → named t d p ≡ Some (directory, x) → within (names p) (names q) ≡ false → Moved d p q (Some (directory, x))
      dir_case sp sq st lq x e w =
          let zp = from_start i t shaped s d p st in
          let zq = from_start i t shaped s d q st in
          let f = fresh-entry i t shaped s d q sq zq.0 lq in
          let n = found i t shaped s d p directory x sp zp.0 e in
          let u = renamed t (Some (directory, x)) (new_entry t d q) in
          let j = (writes (dirs_write u ∷ []) i).image in
          let apart = ap (λ (y : Path). within y (climb t.dirs 32 (new_entry t d q).parent)) n.1 ∙ not-inside i t shaped s (climb t.dirs 32 d) (names p) (names q) (new_entry t d q) f w in
          same_tree (dirs-moved x n.0 (new_entry t d q) (climb t.dirs 32 d ++ names q) f apart
          ∙ ap₂ (λ (y z : Path). moved y z (tree_of t i).dirs) (n.1 ∙ sym zp.1) (sym zq.1))
          (beneath-moved x n.0 (new_entry t d q) (climb t.dirs 32 d ++ names q) f apart j (λ r h. data_kept (dirs_write u ∷ []) i r h (omega arith, tt))
          ∙ ap₂ (λ (y z : Path). moved y z (tree_of t i).files) (n.1 ∙ sym zp.1) (sym zq.1))

      file_case : spelt p ≡ true → spelt q ≡ true → starts t d ≡ true → leads t d q ≡ true → (x : ℕ) → named t d p ≡ Some (file, x) → Moved d p q (Some (file, x))
      file_case sp sq st lq x e =
          let zp = from_start i t shaped s d p st in
          let zq = from_start i t shaped s d q st in
          let f = fresh-entry i t shaped s d q sq zq.0 lq in
          let n = found i t shaped s d p file x sp zp.0 e in
          let u = renamed t (Some (file, x)) (new_entry t d q) in
          let j = (writes (files_write u ∷ []) i).image in
          same_tree (dirs_still x n.0 (new_entry t d q) (climb t.dirs 32 d ++ names q) f
          ∙ ap₂ (λ (y z : Path). moved y z (tree_of t i).dirs) (n.1 ∙ sym zp.1) (sym zq.1))
          (files-moved x n.0 (new_entry t d q) (climb t.dirs 32 d ++ names q) f j (λ r h. data_kept (files_write u ∷ []) i r h (omega arith, tt))
          ∙ ap₂ (λ (y z : Path). moved y z (tree_of t i).files) (n.1 ∙ sym zp.1) (sym zq.1))

      kinds : spelt p ≡ true → spelt q ≡ true → starts t d ≡ true → leads t d q ≡ true → (k : Kind) (x : ℕ) → named t d p ≡ Some (k, x) → (is_dir (Some (k, x)) && within (names p) (names q)) ≡ false → Moved d p q (Some (k, x))
      kinds sp sq st lq directory x e w = dir_case sp sq st lq x e w
      kinds sp sq st lq file x e w = file_case sp sq st lq x e

      go : spelt p ≡ true → spelt q ≡ true → starts t d ≡ true → leads t d q ≡ true → (o : Option (Kind × ℕ)) → named t d p ≡ o → is_some o ≡ true → (is_dir o && within (names p) (names q)) ≡ false → Moved d p q o
      go sp sq st lq None e v w = absurd (false≢true v)
      go sp sq st lq (Some x) e v w = kinds sp sq st lq x.0 x.1 e w
