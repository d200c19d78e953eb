-- What mkdir and unlink do to the tree.
use Rattle.std.proofs.Common.{◌≡◌, ℕ, ◌<◌, ◌≤◌, true, ◌⊎◌, List, [], ◌∷◌, ◌++◌, length, get_or, set, Some, None, sym, refl, ap, ◌∙◌, subst, inl, inr, arith}
use Rattle.std.proofs.lemmas.List.{get_or-set_other, get_or-set_same, length-set}
use Rattle.std.proofs.lemmas.Bool.{both_ways, cases_eq}
use Rattle.model.specs.Image.{Image, look, writes}
use Rattle.model.specs.Refusals.{entries, lost, misspelt, start, mkdir, unlink, picked}
use Rattle.model.specs.Names.{names, spelt, Path, same_path}
use Rattle.model.specs.Tables.{Entry, Tables, no_entry, live, trimmed, used}
use Rattle.model.specs.Tree.{file, is_some, added_at, unless_gone, without}
use Rattle.model.specs.History.{whole as whole_path, change}
use Rattle.model.specs.Volume.{is_file, number_of, named, climb, item_path, body, dir_items, file_items, tree_of, checks, starts, leads, free_entry, first_bytes, freed, or_zero, new_entry, made, unlinked, tables_after, map_write, dirs_write, files_write, sector_writes}
use Rattle.model.specs.Sound.{Shaped, Live, Sound}
use Rattle.model.proofs.Common.Tests.{some_out}
use Rattle.model.proofs.Store.Writes.{data_kept}
use Rattle.model.proofs.Naming.Same.{eq_same_path, not_same}
use Rattle.model.proofs.Tables.Climbs.{Place, place-climbs}
use Rattle.model.proofs.Tables.Walks.{live_at, free-at, freed_gone, found, file_out, Fresh, fresh-entry}
use Rattle.model.proofs.Tables.Ways.{climb-kept}
use Rattle.model.proofs.Trees.Items.{dir_item, file_item, unused-dirs, from_start}
use Rattle.model.proofs.Trees.Keeps.{gone_not, gone_so, files-one, rows_same, body_kept}
use Rattle.model.proofs.Trees.Slots.{same_tree, it_same, it_gone, it_there, dirs-put, files_keep, files-map}
use Rattle.model.proofs.Calls.Checks.{pass_not}

module _ (i : Image) (t : Tables) (shaped : Shaped t) (s : Sound i t) where
  module _ (m : ℕ) (free : free_entry t.dirs ≡ Some m) (e : Entry) (p : Path) (f : Fresh t.dirs e p) where
    others : (k : ℕ) → live (get_or t.dirs k no_entry) ≡ true → get_or (set t.dirs m e) k no_entry ≡ get_or t.dirs k no_entry
    others k l = get_or-set_other t.dirs m k e no_entry (λ z. both_ways (live (get_or t.dirs k no_entry)) (ap (λ y. live (get_or t.dirs y no_entry)) z ∙ (free-at t.dirs m free).1) l)

    climb-same : (d : ℕ) → Place t.dirs d → climb (set t.dirs m e) 32 d ≡ climb t.dirs 32 d
    climb-same d h = climb-kept t.dirs (set t.dirs m e) (λ k. Unit {0}) (λ k l u. (others k l.1, tt)) 32 d (place-climbs i t s d h) tt

    path-same : (x : Entry) → Place t.dirs x.parent → item_path (set t.dirs m e) x ≡ item_path t.dirs x
    path-same x h = ap (λ c. c ++ trimmed x.name ∷ []) (climb-same x.parent h)

    dirs-made : dir_items (set t.dirs m e) (set t.dirs m e) ≡ set (dir_items t.dirs t.dirs) m (Some (record { path = p; bytes = [] }))
    dirs-made = dirs-put t.dirs (set t.dirs m e) t.dirs (set t.dirs m e) (length-set t.dirs m e) m (Some (record { path = p; bytes = [] })) (free-at t.dirs m free).0
        (ap (dir_item (set t.dirs m e)) (get_or-set_same t.dirs m e no_entry (free-at t.dirs m free).0) ∙ it_there (live e) (item_path (set t.dirs m e) e) p [] [] f.lives (path-same e f.placed ∙ f.path) refl)
        (λ k ne l. ap (dir_item (set t.dirs m e)) (get_or-set_other t.dirs m k e no_entry ne)
        ∙ it_same (live (get_or t.dirs k no_entry)) (item_path (set t.dirs m e) (get_or t.dirs k no_entry)) (item_path t.dirs (get_or t.dirs k no_entry)) [] [] (λ v. path-same (get_or t.dirs k no_entry) (s.dirs_proper k (live_at t.dirs shaped.dirs_many k l v)).held) (λ v. refl))

    files-made : (j : Image) → ((r : ℕ) → r ≤ 255 → look j r ≡ look i r) → file_items (set t.dirs m e) j t.files t.rows ≡ file_items t.dirs i t.files t.rows
    files-made j h = files_keep t.dirs (set t.dirs m e) i j t.files t.files t.rows t.rows refl (rows_same i t shaped s) (rows_same i t shaped s)
        (λ k l. it_same (live (get_or t.files k no_entry)) (item_path (set t.dirs m e) (get_or t.files k no_entry)) (item_path t.dirs (get_or t.files k no_entry)) (body j (used (get_or t.rows k []))) (body i (used (get_or t.rows k [])))
        (λ v. path-same (get_or t.files k no_entry) (s.files_proper k (live_at t.files shaped.files_many k l v)).held)
        (λ v. body_kept i t shaped s j h k (live_at t.files shaped.files_many k l v)))

  pub mkdir_follows : (d : ℕ) (p : List ℕ) → picked (checks t i (mkdir d p)) ≡ None → tree_of (tables_after t (mkdir d p)) (writes (sector_writes t (mkdir d p) (tables_after t (mkdir d p))) i).image ≡ change (tree_of t i) (mkdir d p)
  mkdir_follows d p acc =
      let a = pass_not (spelt p) misspelt _ acc in
      let b = pass_not (starts t d) start _ a.1 in
      let c = pass_not (is_some (free_entry t.dirs)) entries _ b.1 in
      let l = pass_not (leads t d p) lost _ c.1 in
      let z = from_start i t shaped s d p b.0 in
      let f = fresh-entry i t shaped s d p a.0 z.0 l.0 in
      let m = some_out (free_entry t.dirs) c.0 in
      let u = unused-dirs i t shaped s ∙ m.1 in
      same_tree (ap (λ n. dir_items (set t.dirs n (new_entry t d p)) (set t.dirs n (new_entry t d p))) (ap or_zero m.1)
      ∙ dirs-made m.0 m.1 (new_entry t d p) (climb t.dirs 32 d ++ names p) f
      ∙ ap (λ (q : Path). set (dir_items t.dirs t.dirs) m.0 (Some (record { path = q; bytes = [] }))) (sym z.1)
      ∙ ap (λ o. added_at o (tree_of t i).dirs (record { path = whole_path (tree_of t i) d p; bytes = [] })) (sym u))
      (ap (λ n. file_items (set t.dirs n (new_entry t d p)) (writes (dirs_write (made t d p) ∷ []) i).image t.files t.rows) (ap or_zero m.1)
      ∙ files-made m.0 m.1 (new_entry t d p) (climb t.dirs 32 d ++ names p) f (writes (dirs_write (made t d p) ∷ []) i).image (λ r h. data_kept (dirs_write (made t d p) ∷ []) i r h (omega arith, tt)))

  module _ (x : ℕ) (lx : Live t.files x) (j : Image) (h : (r : ℕ) → r ≤ 255 → look j r ≡ look i r) where
    abbrev gone_path : Path
    gone_path = item_path t.dirs (get_or t.files x no_entry)

    slot : (k : ℕ) → k < length t.files → (k ≡ x) ⊎ (k ≡ x → ⊥) → file_item t.dirs j (get_or (freed t.files x) k no_entry) (get_or t.rows k []) ≡ unless_gone (same_path gone_path) (file_item t.dirs i (get_or t.files k no_entry) (get_or t.rows k []))
    slot k l (inl z) =
        ap (λ e. file_item t.dirs j e (get_or t.rows k [])) (ap (λ y. get_or (freed t.files x) y no_entry) z ∙ get_or-set_same t.files x (first_bytes (get_or t.files x no_entry)) no_entry (subst (λ y. y < length t.files) z l))
        ∙ it_gone (live (first_bytes (get_or t.files x no_entry))) (item_path t.dirs (first_bytes (get_or t.files x no_entry))) (body j (used (get_or t.rows k []))) (freed_gone (get_or t.files x no_entry))
        ∙ sym (gone_so (same_path gone_path) (live (get_or t.files k no_entry)) (item_path t.dirs (get_or t.files k no_entry)) (body i (used (get_or t.rows k []))) (λ v. eq_same_path gone_path (item_path t.dirs (get_or t.files k no_entry)) (ap (λ y. item_path t.dirs (get_or t.files y no_entry)) (sym z))))
    slot k l (inr z) =
        ap (λ e. file_item t.dirs j e (get_or t.rows k [])) (get_or-set_other t.files x k (first_bytes (get_or t.files x no_entry)) no_entry z)
        ∙ it_same (live (get_or t.files k no_entry)) (item_path t.dirs (get_or t.files k no_entry)) (item_path t.dirs (get_or t.files k no_entry)) (body j (used (get_or t.rows k []))) (body i (used (get_or t.rows k []))) (λ v. refl) (λ v. body_kept i t shaped s j h k (live_at t.files shaped.files_many k l v))
        ∙ sym (gone_not (same_path gone_path) (live (get_or t.files k no_entry)) (item_path t.dirs (get_or t.files k no_entry)) (body i (used (get_or t.rows k []))) (λ v. not_same gone_path (item_path t.dirs (get_or t.files k no_entry)) (λ e. z (sym (files-one i t shaped s x k lx (live_at t.files shaped.files_many k l v) e)))))

    files-unlinked : file_items t.dirs j (freed t.files x) t.rows ≡ without (same_path gone_path) (file_items t.dirs i t.files t.rows)
    files-unlinked =
        let m = length-set t.files x (first_bytes (get_or t.files x no_entry)) in
        files-map t.dirs t.dirs i j t.files (freed t.files x) t.rows t.rows m (rows_same i t shaped s) (m ∙ rows_same i t shaped s) (unless_gone (same_path gone_path)) (λ k l. slot k l (cases_eq k x))

  pub unlink_follows : (d : ℕ) (p : List ℕ) → picked (checks t i (unlink d p)) ≡ None → tree_of (tables_after t (unlink d p)) (writes (sector_writes t (unlink d p) (tables_after t (unlink d p))) i).image ≡ change (tree_of t i) (unlink d p)
  unlink_follows d p acc =
      let a = pass_not (spelt p) misspelt _ acc in
      let b = pass_not (starts t d) start _ a.1 in
      let c = pass_not (is_file (named t d p)) lost _ b.1 in
      let z = from_start i t shaped s d p b.0 in
      let x = file_out (named t d p) c.0 in
      let f = found i t shaped s d p file x.0 a.0 z.0 x.1 in
      let u = unlinked t (number_of (named t d p)) in
      let j = (writes (files_write u ∷ map_write u ∷ []) i).image in
      same_tree refl
      (ap (λ n. file_items t.dirs j (freed t.files n) t.rows) (ap number_of x.1)
      ∙ files-unlinked x.0 f.0 j (λ r h. data_kept (files_write u ∷ map_write u ∷ []) i r h (omega arith, (omega arith, tt)))
      ∙ ap (λ (q : Path). without (same_path q) (tree_of t i).files) (f.1 ∙ sym z.1))
