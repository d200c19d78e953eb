-- What prune does to the tree.
use Rattle.std.proofs.Common.{◌≡◌, ℕ, ◌<◌, ◌≤◌, Bool, true, false, cond, ◌&&◌, List, [], ◌∷◌, ◌++◌, length, get_or, None, sym, refl, ap, ◌∙◌, ap₂, inr, zero-add, arith}
use Rattle.model.specs.Image.{Image, look, writes}
use Rattle.model.specs.Refusals.{lost, misspelt, start, prune, picked}
use Rattle.model.specs.Names.{spelt, Path, within}
use Rattle.model.specs.Tables.{Entry, Tables, no_entry, live, trimmed, used}
use Rattle.model.specs.Tree.{directory, unless_gone, without}
use Rattle.model.specs.History.{change}
use Rattle.model.specs.Volume.{is_dir, number_of, named, climb, item_path, body, dir_items, file_items, tree_of, checks, starts, first_bytes, under, dirs_less, files_less, pruned, tables_after, map_write, dirs_write, files_write, sector_writes}
use Rattle.model.specs.Sound.{Shaped, Live, Sound}
use Rattle.model.proofs.Store.Writes.{data_kept}
use Rattle.model.proofs.Naming.Same.{within_deeper, within-up}
use Rattle.model.proofs.Tables.Climbs.{Place, place-climbs, climb-live}
use Rattle.model.proofs.Tables.Walks.{live_at, freed_gone, found, dir_out}
use Rattle.model.proofs.Tables.Ways.{climb-kept, under-within}
use Rattle.model.proofs.Trees.Items.{dir_item, file_item, from_start}
use Rattle.model.proofs.Trees.Keeps.{gone_not, gone_so, kinds_two, rows_same, body_kept}
use Rattle.model.proofs.Trees.Slots.{same_tree, it_same, it_gone, dirs-map, files-map}
use Rattle.model.proofs.Calls.Checks.{pass_not}
use Rattle.model.proofs.Calls.Cuts.{dirs-length, dirs-cut, files-length, files-cut}

module _ (i : Image) (t : Tables) (shaped : Shaped t) (s : Sound i t) where
  module _ (top : ℕ) (lt : Live t.dirs top) where
    abbrev trunk : Path
    trunk = climb t.dirs 32 top

    abbrev left : List Entry
    left = dirs_less t.dirs top 0 t.dirs

    out : (k : ℕ) → Place t.dirs k → under t.dirs top 33 k ≡ within trunk (climb t.dirs 32 k)
    out k p = under-within i t s top lt 32 k (place-climbs i t s k p)

    kept : (k : ℕ) → Live t.dirs k → within trunk (climb t.dirs 32 k) ≡ false → (get_or left k no_entry ≡ get_or t.dirs k no_entry) × (within trunk (climb t.dirs 32 (get_or t.dirs k no_entry).parent) ≡ false)
    kept k l h = (
      dirs-cut t.dirs top 0 t.dirs k k (sym (zero-add k)) ∙ ap₂ (λ (x y : Bool). cond (x && y) (first_bytes (get_or t.dirs k no_entry)) (get_or t.dirs k no_entry)) l.1 (out k (inr l) ∙ h),
      within-up trunk (climb t.dirs 32 (get_or t.dirs k no_entry).parent) (trimmed (get_or t.dirs k no_entry).name) (ap (within trunk) (sym (climb-live i t s k l)) ∙ h),
    )

    climb_out : (d : ℕ) → Place t.dirs d → within trunk (climb t.dirs 32 d) ≡ false → climb left 32 d ≡ climb t.dirs 32 d
    climb_out d p h = climb-kept t.dirs left (λ k. within trunk (climb t.dirs 32 k) ≡ false) kept 32 d (place-climbs i t s d p) h

    path_out : (e : Entry) → Place t.dirs e.parent → within trunk (climb t.dirs 32 e.parent) ≡ false → item_path left e ≡ item_path t.dirs e
    path_out e p h = ap (λ c. c ++ trimmed e.name ∷ []) (climb_out e.parent p h)

    dir_slot : (k : ℕ) → k < length t.dirs → dir_item left (get_or left k no_entry) ≡ unless_gone (within trunk) (dir_item t.dirs (get_or t.dirs k no_entry))
    dir_slot k l = ap (dir_item left) (dirs-cut t.dirs top 0 t.dirs k k (sym (zero-add k))) ∙ go (live (get_or t.dirs k no_entry)) refl (under t.dirs top 33 k) refl
      where
        e : Entry
        e = get_or t.dirs k no_entry

        inside : live e ≡ true → (c : Bool) → under t.dirs top 33 k ≡ c → within trunk (item_path t.dirs e) ≡ c
        inside v c q = let z = live_at t.dirs shaped.dirs_many k l v in ap (within trunk) (sym (climb-live i t s k z)) ∙ sym (out k (inr z)) ∙ q

        go : (b : Bool) → live e ≡ b → (c : Bool) → under t.dirs top 33 k ≡ c → dir_item left (cond (b && c) (first_bytes e) e) ≡ unless_gone (within trunk) (dir_item t.dirs e)
        go false v c q = it_gone (live e) (item_path left e) [] v ∙ ap (unless_gone (within trunk)) (sym (it_gone (live e) (item_path t.dirs e) [] v))
        go true v true q = it_gone (live (first_bytes e)) (item_path left (first_bytes e)) [] (freed_gone e) ∙ sym (gone_so (within trunk) (live e) (item_path t.dirs e) [] (λ w. inside w true q))
        go true v false q =
            it_same (live e) (item_path left e) (item_path t.dirs e) [] [] (λ w. let z = live_at t.dirs shaped.dirs_many k l w in path_out e (s.dirs_proper k z).held (kept k z (sym (out k (inr z)) ∙ q)).1) (λ w. refl)
            ∙ sym (gone_not (within trunk) (live e) (item_path t.dirs e) [] (λ w. inside w false q))

    file_slot : (j : Image) → ((r : ℕ) → r ≤ 255 → look j r ≡ look i r) → (k : ℕ) → k < length t.files → file_item left j (get_or (files_less t.dirs top t.files) k no_entry) (get_or t.rows k []) ≡ unless_gone (within trunk) (file_item t.dirs i (get_or t.files k no_entry) (get_or t.rows k []))
    file_slot j h k l = ap (λ x. file_item left j x (get_or t.rows k [])) (files-cut t.dirs top t.files k) ∙ go (live (get_or t.files k no_entry)) refl (under t.dirs top 33 (get_or t.files k no_entry).parent) refl
      where
        e : Entry
        e = get_or t.files k no_entry

        b : List ℕ
        b = body j (used (get_or t.rows k []))

        i_b : List ℕ
        i_b = body i (used (get_or t.rows k []))

        above : live e ≡ true → (c : Bool) → under t.dirs top 33 e.parent ≡ c → within trunk (climb t.dirs 32 e.parent) ≡ c
        above v c q = sym (out e.parent (s.files_proper k (live_at t.files shaped.files_many k l v)).held) ∙ q

        inside : live e ≡ true → (c : Bool) → under t.dirs top 33 e.parent ≡ c → within trunk (item_path t.dirs e) ≡ c
        inside v c q =
            let z = live_at t.files shaped.files_many k l v in
            within_deeper trunk (climb t.dirs 32 e.parent) (trimmed e.name) (λ x. kinds_two i t shaped s top k lt z (sym (climb-live i t s top lt) ∙ x)) ∙ above v c q

        go : (a : Bool) → live e ≡ a → (c : Bool) → under t.dirs top 33 e.parent ≡ c → file_item left j (cond (a && c) (first_bytes e) e) (get_or t.rows k []) ≡ unless_gone (within trunk) (file_item t.dirs i e (get_or t.rows k []))
        go false v c q = it_gone (live e) (item_path left e) b v ∙ ap (unless_gone (within trunk)) (sym (it_gone (live e) (item_path t.dirs e) i_b v))
        go true v true q = it_gone (live (first_bytes e)) (item_path left (first_bytes e)) b (freed_gone e) ∙ sym (gone_so (within trunk) (live e) (item_path t.dirs e) i_b (λ w. inside w true q))
        go true v false q =
            it_same (live e) (item_path left e) (item_path t.dirs e) b i_b (λ w. path_out e (s.files_proper k (live_at t.files shaped.files_many k l w)).held (above w false q)) (λ w. body_kept i t shaped s j h k (live_at t.files shaped.files_many k l w))
            ∙ sym (gone_not (within trunk) (live e) (item_path t.dirs e) i_b (λ w. inside w false q))

    dirs-pruned : dir_items left left ≡ without (within trunk) (dir_items t.dirs t.dirs)
    dirs-pruned = dirs-map t.dirs left t.dirs left (dirs-length t.dirs top 0 t.dirs) (unless_gone (within trunk)) dir_slot

    files-pruned : (j : Image) → ((r : ℕ) → r ≤ 255 → look j r ≡ look i r) → file_items left j (files_less t.dirs top t.files) t.rows ≡ without (within trunk) (file_items t.dirs i t.files t.rows)
    files-pruned j h =
        let m = files-length t.dirs top t.files in
        files-map t.dirs left i j t.files (files_less t.dirs top t.files) t.rows t.rows m (rows_same i t shaped s) (m ∙ rows_same i t shaped s) (unless_gone (within trunk)) (file_slot j h)

  pub prune_follows : (d : ℕ) (p : List ℕ) → picked (checks t i (prune d p)) ≡ None → tree_of (tables_after t (prune d p)) (writes (sector_writes t (prune d p) (tables_after t (prune d p))) i).image ≡ change (tree_of t i) (prune d p)
  prune_follows d p acc =
      let a = pass_not (spelt p) misspelt _ acc in
      let b = pass_not (starts t d) start _ a.1 in
      let c = pass_not (is_dir (named t d p)) lost _ b.1 in
      let z = from_start i t shaped s d p b.0 in
      let x = dir_out (named t d p) c.0 in
      let f = found i t shaped s d p directory x.0 a.0 z.0 x.1 in
      let u = pruned t (number_of (named t d p)) in
      let j = (writes (files_write u ∷ dirs_write u ∷ map_write u ∷ []) i).image in
      same_tree (ap (λ n. dir_items (dirs_less t.dirs n 0 t.dirs) (dirs_less t.dirs n 0 t.dirs)) (ap number_of x.1)
      ∙ dirs-pruned x.0 f.0
      ∙ ap (λ (q : Path). without (within q) (tree_of t i).dirs) (f.1 ∙ sym z.1))
      (ap (λ n. file_items (dirs_less t.dirs n 0 t.dirs) j (files_less t.dirs n t.files) t.rows) (ap number_of x.1)
      ∙ files-pruned x.0 f.0 j (λ r h. data_kept (files_write u ∷ dirs_write u ∷ map_write u ∷ []) i r h (omega arith, (omega arith, (omega arith, tt))))
      ∙ ap (λ (q : Path). without (within q) (tree_of t i).files) (f.1 ∙ sym z.1))
