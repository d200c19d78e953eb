-- Call by call, the first check that refuses is the same in the tables and in their tree.
use Rattle.std.proofs.Common.{◌≡◌, ℕ, ◌-◌, ◌*◌, ◌/◌, Bool, true, false, cond, not, ◌&&◌, ◌||◌, ltb, leb, List, [], ◌∷◌, ◌++◌, length, get_or, Some, None, Option, sym, refl, ap, ◌∙◌, ap₂, arith}
use Rattle.std.proofs.lemmas.List.{append-nil}
use Rattle.std.proofs.lemmas.Bool.{and_parts, false≢true, not-false, or_left}
use Rattle.model.specs.Image.{Image}
use Rattle.model.specs.Refusals.{entries, inside, lost, misspelt, sectors, size, start, taken, Call, closing, opening, find, mkdir, prune, unlink, read, write, move, next, book, picked}
use Rattle.model.specs.Names.{names, spelt, Name, Path, within, proper_name, all_names, spelt_or_empty, padded}
use Rattle.model.specs.Tables.{Tables, no_entry, used}
use Rattle.model.specs.Tree.{Kind, is_some, is_dir as tree_dir, start_path, way, sectors_of}
use Rattle.model.specs.Book.{parent, last}
use Rattle.model.specs.History.{leads as tree_leads, whole as whole_path, below, is_file as tree_file, is_item, bytes_at, item_at, file_bytes, whole_sectors, checks as tree_checks}
use Rattle.model.specs.Volume.{row, child, either_kind, item_in, holder, item, is_dir, is_file, number_of, named, climb, item_path, body, file_items, tree_of, checks, starts, leads, free_sectors}
use Rattle.model.specs.Sound.{Shaped, Live, Sound}
use Rattle.model.specs.Law.{whole}
use Rattle.model.proofs.Common.Tests.{and_given}
use Rattle.model.proofs.Naming.Same.{within-below}
use Rattle.model.proofs.Naming.Spelling.{spelt-names, empty-names, spelt_some, parent-names, last_name}
use Rattle.model.proofs.Tables.Climbs.{Place}
use Rattle.model.proofs.Tables.Places.{row-length}
use Rattle.model.proofs.Tables.Walks.{child_facts, walk_facts, holder-path}
use Rattle.model.proofs.Trees.Items.{file_items-at, push_dir, dir_number, unused-dirs, unused-files, start_agrees, start_names, way-walk, file_at, place-held}
use Rattle.model.proofs.Calls.Checks.{pick}

module _ (i : Image) (t : Tables) (w : whole i ≡ true) (shaped : Shaped t) (s : Sound i t) where
  start_held : (d : ℕ) → Place t.dirs d → tree_dir (tree_of t i) (climb t.dirs 32 d ++ []) ≡ true
  start_held d p = ap (tree_dir (tree_of t i)) (append-nil (climb t.dirs 32 d)) ∙ place-held i t shaped s d p

  dir_there : (n : Name) (ns : Path) (d e : ℕ) → all_names (n ∷ ns) ≡ true → Place t.dirs d → holder t d (n ∷ ns) ≡ Some e → tree_dir (tree_of t i) (climb t.dirs 32 d ++ n ∷ ns) ≡ is_some (child t.dirs e (last (n ∷ ns)))
  dir_there n ns d e a p k =
      ap (tree_dir (tree_of t i)) (sym (holder-path i t shaped s n ns d e a p k))
      ∙ push_dir (tree_of t i) (climb t.dirs 32 e) (last (n ∷ ns))
      ∙ ap is_some (dir_number i t shaped s e (last (n ∷ ns)) (walk_facts i t shaped s (parent (n ∷ ns)) d e (parent-names (n ∷ ns) a) p k).0 (last_name n ns a))

  file_there : (n : Name) (ns : Path) (d e : ℕ) → all_names (n ∷ ns) ≡ true → Place t.dirs d → holder t d (n ∷ ns) ≡ Some e → tree_file (tree_of t i) (climb t.dirs 32 d ++ n ∷ ns) ≡ is_some (child t.files e (last (n ∷ ns)))
  file_there n ns d e a p k = ap is_some (file_at i t shaped s n ns d e a p k)

  -- no name is that of a directory and of a file
  never_both : (d : ℕ) (n : Name) (c f : ℕ) → proper_name n ≡ true → child t.dirs d n ≡ Some c → child t.files d n ≡ Some f → ⊥
  never_both d n c f q h k =
      let a = child_facts t.dirs shaped.dirs_many d n c q h in
      let b = child_facts t.files shaped.files_many d n f q k in
      s.kinds_apart c f a.alive b.alive (a.under ∙ sym b.under) ((s.dirs_proper c a.alive).filled ∙ ap padded (a.called ∙ sym b.called) ∙ sym (s.files_proper f b.alive).filled)

  either_some : (u v : Option ℕ) → (is_some u || is_some v) ≡ is_some (either_kind u v)
  either_some (Some a) v = refl
  either_some None (Some b) = refl
  either_some None None = refl

  either_dir : (u v : Option ℕ) → is_some u ≡ is_dir (either_kind u v)
  either_dir (Some a) v = refl
  either_dir None (Some b) = refl
  either_dir None None = refl

  either_file : (u v : Option ℕ) → ((a b : ℕ) → u ≡ Some a → v ≡ Some b → ⊥) → is_some v ≡ is_file (either_kind u v)
  either_file (Some a) (Some b) h = absurd (h a b refl refl)
  either_file (Some a) None h = refl
  either_file None (Some b) h = refl
  either_file None None h = refl

  -- what a path leads to, by a test of the tree and by one of the tables
  lead : (f : Path → Bool) (g : Option (Kind × ℕ) → Bool) → g None ≡ false → (n : Name) (ns : Path) (d : ℕ) → all_names (n ∷ ns) ≡ true → Place t.dirs d → ((e : ℕ) → holder t d (n ∷ ns) ≡ Some e → f (climb t.dirs 32 d ++ n ∷ ns) ≡ g (either_kind (child t.dirs e (last (n ∷ ns))) (child t.files e (last (n ∷ ns))))) → (way (tree_of t i) (climb t.dirs 32 d) (n ∷ ns) && f (climb t.dirs 32 d ++ n ∷ ns)) ≡ g (item t d (n ∷ ns))
  lead f g z n ns d a p h = ap (λ x. x && f (climb t.dirs 32 d ++ n ∷ ns)) (way-walk i t shaped s (n ∷ ns) d a p) ∙ go (holder t d (n ∷ ns)) refl
    where
      go : (o : Option ℕ) → holder t d (n ∷ ns) ≡ o → (is_some o && f (climb t.dirs 32 d ++ n ∷ ns)) ≡ g (item_in t o (last (n ∷ ns)))
      go None k = sym z
      go (Some e) k = h e k

  lead_item : (ns : Path) (d : ℕ) → all_names ns ≡ true → Place t.dirs d → (way (tree_of t i) (climb t.dirs 32 d) ns && is_item (tree_of t i) (climb t.dirs 32 d ++ ns)) ≡ is_some (item t d ns)
  lead_item [] d a p = or_left (tree_dir (tree_of t i) (climb t.dirs 32 d ++ [])) (tree_file (tree_of t i) (climb t.dirs 32 d ++ [])) (start_held d p)
  lead_item (n ∷ ns) d a p = lead (is_item (tree_of t i)) is_some refl n ns d a p (λ e k. ap₂ ◌||◌ (dir_there n ns d e a p k) (file_there n ns d e a p k) ∙ either_some (child t.dirs e (last (n ∷ ns))) (child t.files e (last (n ∷ ns))))

  lead_dir : (ns : Path) (d : ℕ) → all_names ns ≡ true → Place t.dirs d → (way (tree_of t i) (climb t.dirs 32 d) ns && tree_dir (tree_of t i) (climb t.dirs 32 d ++ ns)) ≡ is_dir (item t d ns)
  lead_dir [] d a p = start_held d p
  lead_dir (n ∷ ns) d a p = lead (tree_dir (tree_of t i)) is_dir refl n ns d a p (λ e k. dir_there n ns d e a p k ∙ either_dir (child t.dirs e (last (n ∷ ns))) (child t.files e (last (n ∷ ns))))

  lead_file : (ns : Path) (d : ℕ) → (ns ≡ [] → ⊥) → all_names ns ≡ true → Place t.dirs d → (way (tree_of t i) (climb t.dirs 32 d) ns && tree_file (tree_of t i) (climb t.dirs 32 d ++ ns)) ≡ is_file (item t d ns)
  lead_file [] d z a p = absurd (z refl)
  lead_file (n ∷ ns) d z a p = lead (tree_file (tree_of t i)) is_file refl n ns d a p (λ e k. file_there n ns d e a p k ∙ either_file (child t.dirs e (last (n ∷ ns))) (child t.files e (last (n ∷ ns))) (λ c f x y. never_both e (last (n ∷ ns)) c f (last_name n ns a) x y))

  size_of : (ns : Path) (d : ℕ) → (ns ≡ [] → ⊥) → all_names ns ≡ true → Place t.dirs d → is_file (item t d ns) ≡ true → length (file_bytes (tree_of t i) (climb t.dirs 32 d ++ ns)) ≡ 512 * length (used (row t (number_of (item t d ns))))
  size_of [] d z a p h = absurd (z refl)
  size_of (n ∷ ns) d z a p h = go (holder t d (n ∷ ns)) refl h
    where
      kept : (f : ℕ) → Live t.files f → length (bytes_at (get_or (file_items t.dirs i t.files t.rows) f None)) ≡ 512 * length (used (row t f))
      kept f l =
          let x = l.0 in
          let y = shaped.files_many in
          let u = shaped.rows_many in
          ap (λ x. length (bytes_at x)) (file_items-at t.dirs i t.files t.rows f (omega arith) (omega arith))
          ∙ ap (λ b. length (bytes_at (cond b (Some (record { path = item_path t.dirs (get_or t.files f no_entry); bytes = body i (used (row t f)) })) None))) l.1
          ∙ row-length i (row t f) w (s.rows_proper f l)

      two : (e : ℕ) → holder t d (n ∷ ns) ≡ Some e → (u : Option ℕ) (v : Option ℕ) → child t.files e (last (n ∷ ns)) ≡ v → is_file (either_kind u v) ≡ true → length (file_bytes (tree_of t i) (climb t.dirs 32 d ++ n ∷ ns)) ≡ 512 * length (used (row t (number_of (either_kind u v))))
      two e k (Some c) v g h = absurd (false≢true h)
      two e k None None g h = absurd (false≢true h)
      two e k None (Some f) g h =
          ap (λ o. length (bytes_at (item_at o (file_items t.dirs i t.files t.rows)))) (file_at i t shaped s n ns d e a p k ∙ g)
          ∙ kept f (child_facts t.files shaped.files_many e (last (n ∷ ns)) f (last_name n ns a) g).alive

      go : (o : Option ℕ) → holder t d (n ∷ ns) ≡ o → is_file (item_in t o (last (n ∷ ns))) ≡ true → length (file_bytes (tree_of t i) (climb t.dirs 32 d ++ n ∷ ns)) ≡ 512 * length (used (row t (number_of (item_in t o (last (n ∷ ns))))))
      go None k h = absurd (false≢true h)
      go (Some e) k h = two e k (child t.dirs e (last (n ∷ ns))) (child t.files e (last (n ∷ ns))) refl h

  -- from a start
  as_led : (d : ℕ) (p : List ℕ) → starts t d ≡ true → tree_leads (tree_of t i) d p ≡ way (tree_of t i) (climb t.dirs 32 d) (names p)
  as_led d p h = ap (λ o. way (tree_of t i) (below o []) (names p)) (start_names i t shaped s d h).1 ∙ ap (λ b. way (tree_of t i) b (names p)) (append-nil (climb t.dirs 32 d))

  as_whole : (d : ℕ) (p : List ℕ) → starts t d ≡ true → whole_path (tree_of t i) d p ≡ climb t.dirs 32 d ++ names p
  as_whole d p h = ap (λ o. below o (names p)) (start_names i t shaped s d h).1

  leads-same : (d : ℕ) (p : List ℕ) → all_names (names p) ≡ true → starts t d ≡ true → leads t d p ≡ tree_leads (tree_of t i) d p
  leads-same d p a h = sym (as_led d p h ∙ way-walk i t shaped s (names p) d a (start_names i t shaped s d h).0)

  item-same : (d : ℕ) (p : List ℕ) → all_names (names p) ≡ true → starts t d ≡ true → is_some (named t d p) ≡ (tree_leads (tree_of t i) d p && is_item (tree_of t i) (whole_path (tree_of t i) d p))
  item-same d p a h = sym (ap₂ (λ (x : Bool) (y : Path). x && is_item (tree_of t i) y) (as_led d p h) (as_whole d p h) ∙ lead_item (names p) d a (start_names i t shaped s d h).0)

  dir_same : (d : ℕ) (p : List ℕ) → all_names (names p) ≡ true → starts t d ≡ true → is_dir (named t d p) ≡ (tree_leads (tree_of t i) d p && tree_dir (tree_of t i) (whole_path (tree_of t i) d p))
  dir_same d p a h = sym (ap₂ (λ (x : Bool) (y : Path). x && tree_dir (tree_of t i) y) (as_led d p h) (as_whole d p h) ∙ lead_dir (names p) d a (start_names i t shaped s d h).0)

  file_same : (d : ℕ) (p : List ℕ) → (names p ≡ [] → ⊥) → all_names (names p) ≡ true → starts t d ≡ true → is_file (named t d p) ≡ (tree_leads (tree_of t i) d p && tree_file (tree_of t i) (whole_path (tree_of t i) d p))
  file_same d p z a h = sym (ap₂ (λ (x : Bool) (y : Path). x && tree_file (tree_of t i) y) (as_led d p h) (as_whole d p h) ∙ lead_file (names p) d z a (start_names i t shaped s d h).0)

  starts-same : (d : ℕ) → not (starts t d) ≡ not (is_some (start_path (tree_of t i) d))
  starts-same d = ap not (sym (start_agrees i t shaped s d))

  item-given : (d : ℕ) (p : List ℕ) → all_names (names p) ≡ true → starts t d ≡ true → leads t d p ≡ true → is_some (named t d p) ≡ is_item (tree_of t i) (whole_path (tree_of t i) d p)
  item-given d p a h k = sym (and_given (tree_leads (tree_of t i) d p) (is_item (tree_of t i) (whole_path (tree_of t i) d p)) (is_some (named t d p)) (sym (leads-same d p a h) ∙ k) (sym (item-same d p a h)))

  dir_given : (d : ℕ) (p : List ℕ) → all_names (names p) ≡ true → starts t d ≡ true → tree_leads (tree_of t i) d p ≡ true → is_dir (named t d p) ≡ tree_dir (tree_of t i) (whole_path (tree_of t i) d p)
  dir_given d p a h k = sym (and_given (tree_leads (tree_of t i) d p) (tree_dir (tree_of t i) (whole_path (tree_of t i) d p)) (is_dir (named t d p)) k (sym (dir_same d p a h)))

  within_same : (d : ℕ) (p q : List ℕ) → starts t d ≡ true → within (names p) (names q) ≡ within (whole_path (tree_of t i) d p) (whole_path (tree_of t i) d q)
  within_same d p q h = sym (ap₂ within (as_whole d p h) (as_whole d q h) ∙ within-below (climb t.dirs 32 d) (names p) (names q))

  pub agree : (l : ℕ) → length (free_sectors t) ≡ l - sectors_of (tree_of t i).files → (c : Call) → picked (checks t i c) ≡ picked (tree_checks l (tree_of t i) c)
  agree l m opening = refl
  agree l m closing = refl
  agree l m (find d p) =
      pick misspelt refl λ e. pick start (starts-same d) λ h.
      let a = empty-names p (not-false (spelt_or_empty p) e) in
      pick lost (ap not (item-same d p a (not-false (starts t d) h))) λ _. refl
  agree l m (read d p b) =
      pick misspelt refl λ e. pick start (starts-same d) λ h.
      let sp = not-false (spelt p) e in
      let a = spelt-names p sp in
      let st = not-false (starts t d) h in
      pick lost (ap not (file_same d p (spelt_some p sp) a st)) λ k.
      pick size (ap (ltb (length b)) (sym (ap (λ y. length (file_bytes (tree_of t i) y)) (as_whole d p st) ∙ size_of (names p) d (spelt_some p sp) a (start_names i t shaped s d st).0 (not-false (is_file (named t d p)) k)))) λ _. refl
  agree l m (write d p x) =
      pick misspelt refl λ e. pick start (starts-same d) λ h.
      let a = spelt-names p (not-false (spelt p) e) in
      let st = not-false (starts t d) h in
      pick size {b = not (whole_sectors x)} refl λ _.
      pick sectors (ap (λ y. not (leb (length x / 512) y)) m) λ _.
      pick entries (ap (λ o. not (is_some o)) (sym (unused-files i t shaped s))) λ _.
      pick lost (ap not (leads-same d p a st)) λ k.
      pick taken (item-given d p a st (not-false (leads t d p) k)) λ _. refl
  agree l m (mkdir d p) =
      pick misspelt refl λ e. pick start (starts-same d) λ h.
      let a = spelt-names p (not-false (spelt p) e) in
      let st = not-false (starts t d) h in
      pick entries (ap (λ o. not (is_some o)) (sym (unused-dirs i t shaped s))) λ _.
      pick lost (ap not (leads-same d p a st)) λ k.
      pick taken (item-given d p a st (not-false (leads t d p) k)) λ _. refl
  agree l m (unlink d p) =
      pick misspelt refl λ e. pick start (starts-same d) λ h.
      let sp = not-false (spelt p) e in
      pick lost (ap not (file_same d p (spelt_some p sp) (spelt-names p sp) (not-false (starts t d) h))) λ _. refl
  agree l m (prune d p) =
      pick misspelt refl λ e. pick start (starts-same d) λ h.
      pick lost (ap not (dir_same d p (spelt-names p (not-false (spelt p) e)) (not-false (starts t d) h))) λ _. refl
  agree l m (move d p q) =
      pick misspelt refl λ e. pick start (starts-same d) λ h.
      let sp = and_parts (spelt p) (spelt q) (not-false (spelt p && spelt q) e) in
      let a = spelt-names p sp.0 in
      let b = spelt-names q sp.1 in
      let st = not-false (starts t d) h in
      pick lost (ap not (ap₂ ◌&&◌ (item-same d p a st) (leads-same d q b st))) λ k.
      let f = and_parts (is_some (named t d p)) (leads t d q) (not-false (is_some (named t d p) && leads t d q) k) in
      pick taken (item-given d q b st f.1) λ _.
      pick inside (ap₂ ◌&&◌ (dir_given d p a st (and_parts (tree_leads (tree_of t i) d p) (is_item (tree_of t i) (whole_path (tree_of t i) d p)) (sym (item-same d p a st) ∙ f.0)).0) (within_same d p q st)) λ _. refl
  agree l m (next d p a) =
      pick misspelt refl λ e. pick start (starts-same d) λ h.
      pick lost (ap not (dir_same d p (empty-names p (not-false (spelt_or_empty p) e)) (not-false (starts t d) h))) λ _. refl
  agree l m (book b) = refl
