-- The items of a tree are the live entries of its tables, found under the same numbers.
use Rattle.std.proofs.Common.{◌≡◌, ℕ, zero, suc, ◌<◌, ◌≤◌, Bool, true, false, cond, not, ◌&&◌, ◌||◌, eqb, ◌⊎◌, List, [], ◌∷◌, ◌++◌, length, get_or, Some, None, Option, sym, refl, ap, ◌∙◌, inl, inr, arith}
use Rattle.std.specs.Cmp.{both_ways as same_tests}
use Rattle.std.proofs.lemmas.List.{get_or_past}
use Rattle.std.proofs.lemmas.Bool.{and_from, and_parts, both_ways, cases_lt, eq-eqb, eqb-true, false≢true, le-ltb, lt-ltb}
use Rattle.model.specs.Image.{Image}
use Rattle.model.specs.Names.{names, Name, Path, same_name, same_path, proper_name, all_names, padded}
use Rattle.model.specs.Tables.{root, Entry, Tables, no_entry, live, trimmed, used, live_dir}
use Rattle.model.specs.Tree.{Item, holds, Tree, is_some, stands_at, number_at, unused, is_dir as tree_dir, path_of, start_path, way}
use Rattle.model.specs.Book.{parent, last}
use Rattle.model.specs.History.{whole as whole_path, below}
use Rattle.model.specs.Volume.{is_child, child, walk, holder, climb, item_path, body, dir_items, file_items, tree_of, starts, free_entry}
use Rattle.model.specs.Sound.{Shaped, Live, Proper, Sound}
use Rattle.model.proofs.Common.Searches.{first_none, first_alike}
use Rattle.model.proofs.Naming.Same.{eq_same_name}
use Rattle.model.proofs.Naming.Spelling.{parent-names, last_name}
use Rattle.model.proofs.Tables.Climbs.{Place, climb-live, path-child}
use Rattle.model.proofs.Tables.Rules.{live_dir-live}
use Rattle.model.proofs.Tables.Walks.{child-live, dir_facts, walk_facts, holder-path}

abbrev pub dir_item : List Entry → Entry → Option Item
dir_item ds e = cond (live e) (Some (record { path = item_path ds e; bytes = [] })) None

abbrev pub file_item : List Entry → Image → Entry → List ℕ → Option Item
file_item ds i e r = cond (live e) (Some (record { path = item_path ds e; bytes = body i (used r) })) None

pub length-dir_items : (ds es : List Entry) → length (dir_items ds es) ≡ length es
length-dir_items ds [] = refl
length-dir_items ds (e ∷ es) = ap suc (length-dir_items ds es)

pub dir_items-at : (ds es : List Entry) (k : ℕ) → k < length es → get_or (dir_items ds es) k None ≡ dir_item ds (get_or es k no_entry)
dir_items-at ds [] k l = absurd (omega arith)
dir_items-at ds (e ∷ es) zero l = refl
dir_items-at ds (e ∷ es) (suc k) l = dir_items-at ds es k (omega arith)

pub length-file_items : (ds : List Entry) (i : Image) (es : List Entry) (rs : List (List ℕ)) → length es ≡ length rs → length (file_items ds i es rs) ≡ length es
length-file_items ds i [] rs l = refl
length-file_items ds i (e ∷ es) [] l = sym l
length-file_items ds i (e ∷ es) (r ∷ rs) l = ap suc (length-file_items ds i es rs (omega arith))

pub file_items-at : (ds : List Entry) (i : Image) (es : List Entry) (rs : List (List ℕ)) (k : ℕ) → k < length es → k < length rs → get_or (file_items ds i es rs) k None ≡ file_item ds i (get_or es k no_entry) (get_or rs k [])
file_items-at ds i [] rs k l m = absurd (omega arith)
file_items-at ds i (e ∷ es) [] k l m = absurd (omega arith)
file_items-at ds i (e ∷ es) (r ∷ rs) zero l m = refl
file_items-at ds i (e ∷ es) (r ∷ rs) (suc k) l m = file_items-at ds i es rs k (omega arith) (omega arith)

item-used : (b : Bool) (x : Item) → is_some (cond b (Some x) None) ≡ b
item-used true x = refl
item-used false x = refl

item-stands : (b : Bool) (p : Path) (x : Item) → stands_at p (cond b (Some x) None) ≡ (b && same_path p x.path)
item-stands true p x = refl
item-stands false p x = refl

path-used : (b : Bool) (x : Item) → is_some (path_of (cond b (Some x) None)) ≡ b
path-used true x = refl
path-used false x = refl

pub push_dir : (t : Tree) (b : Path) (n : Name) → tree_dir t (b ++ n ∷ []) ≡ holds t.dirs (b ++ n ∷ [])
push_dir t [] n = refl
push_dir t (m ∷ b) n = refl

module _ (i : Image) (t : Tables) (shaped : Shaped t) (s : Sound i t) where
  -- an item stands at n in d exactly if its entry is that child
  stands-child : (d : ℕ) (n : Name) (e : Entry) (x : Item) → Place t.dirs d → proper_name n ≡ true → (live e ≡ true → Proper t.dirs e) → x.path ≡ item_path t.dirs e → stands_at (climb t.dirs 32 d ++ n ∷ []) (cond (live e) (Some x) None) ≡ is_child d n e
  stands-child d n e x p q h k = item-stands (live e) (climb t.dirs 32 d ++ n ∷ []) x ∙ ap (λ y. live e && same_path (climb t.dirs 32 d ++ n ∷ []) y) k ∙ go (live e) refl
    where
      go : (b : Bool) → live e ≡ b → (b && same_path (climb t.dirs 32 d ++ n ∷ []) (item_path t.dirs e)) ≡ is_child d n e
      go true l = path-child i t s d n e p q (h l)
      go false l = same_tests false (is_child d n e) (λ z. absurd (false≢true z)) (λ z. sym l ∙ child-live d n e q z)

  pub dir_number : (d : ℕ) (n : Name) → Place t.dirs d → proper_name n ≡ true → number_at (tree_of t i).dirs (climb t.dirs 32 d ++ n ∷ []) ≡ child t.dirs d n
  dir_number d n p q = first_alike (stands_at (climb t.dirs 32 d ++ n ∷ [])) (is_child d n) None no_entry (dir_items t.dirs t.dirs) t.dirs (length-dir_items t.dirs t.dirs) same
    where
      same : (k : ℕ) → k < length (dir_items t.dirs t.dirs) → stands_at (climb t.dirs 32 d ++ n ∷ []) (get_or (dir_items t.dirs t.dirs) k None) ≡ is_child d n (get_or t.dirs k no_entry)
      same k l =
          let a = length-dir_items t.dirs t.dirs in
          let b = shaped.dirs_many in
          ap (stands_at (climb t.dirs 32 d ++ n ∷ [])) (dir_items-at t.dirs t.dirs k (omega arith))
          ∙ stands-child d n (get_or t.dirs k no_entry) (record { path = item_path t.dirs (get_or t.dirs k no_entry); bytes = [] }) p q (λ v. s.dirs_proper k (omega arith, v)) refl

  file_number : (d : ℕ) (n : Name) → Place t.dirs d → proper_name n ≡ true → number_at (tree_of t i).files (climb t.dirs 32 d ++ n ∷ []) ≡ child t.files d n
  file_number d n p q = first_alike (stands_at (climb t.dirs 32 d ++ n ∷ [])) (is_child d n) None no_entry (file_items t.dirs i t.files t.rows) t.files (length-file_items t.dirs i t.files t.rows (shaped.files_many ∙ sym shaped.rows_many)) same
    where
      same : (k : ℕ) → k < length (file_items t.dirs i t.files t.rows) → stands_at (climb t.dirs 32 d ++ n ∷ []) (get_or (file_items t.dirs i t.files t.rows) k None) ≡ is_child d n (get_or t.files k no_entry)
      same k l =
          let a = length-file_items t.dirs i t.files t.rows (shaped.files_many ∙ sym shaped.rows_many) in
          let b = shaped.files_many in
          let c = shaped.rows_many in
          ap (stands_at (climb t.dirs 32 d ++ n ∷ [])) (file_items-at t.dirs i t.files t.rows k (omega arith) (omega arith))
          ∙ stands-child d n (get_or t.files k no_entry) (record { path = item_path t.dirs (get_or t.files k no_entry); bytes = body i (used (get_or t.rows k [])) }) p q (λ v. s.files_proper k (omega arith, v)) refl

  pub unused-dirs : unused (tree_of t i).dirs ≡ free_entry t.dirs
  unused-dirs = first_alike (λ x. not (is_some x)) (λ e. not (live e)) None no_entry (dir_items t.dirs t.dirs) t.dirs (length-dir_items t.dirs t.dirs) (λ k l. let a = length-dir_items t.dirs t.dirs in ap (λ x. not (is_some x)) (dir_items-at t.dirs t.dirs k (omega arith)) ∙ ap not (item-used (live (get_or t.dirs k no_entry)) (record { path = item_path t.dirs (get_or t.dirs k no_entry); bytes = [] })))

  pub unused-files : unused (tree_of t i).files ≡ free_entry t.files
  unused-files =
      let same = shaped.files_many ∙ sym shaped.rows_many in
      first_alike (λ x. not (is_some x)) (λ e. not (live e)) None no_entry (file_items t.dirs i t.files t.rows) t.files (length-file_items t.dirs i t.files t.rows same) (λ k l. let a = length-file_items t.dirs i t.files t.rows same in ap (λ x. not (is_some x)) (file_items-at t.dirs i t.files t.rows k (omega arith) (omega arith)) ∙ ap not (item-used (live (get_or t.files k no_entry)) (record { path = item_path t.dirs (get_or t.files k no_entry); bytes = body i (used (get_or t.rows k [])) })))

  -- starts
  pub start_agrees : (d : ℕ) → is_some (start_path (tree_of t i) d) ≡ starts t d
  start_agrees d = go (eqb d root) (cases_lt d 32)
    where
      at : (d < 32) ⊎ (32 ≤ d) → is_some (path_of (get_or (dir_items t.dirs t.dirs) d None)) ≡ live_dir t.dirs d
      at (inl l) =
          let a = shaped.dirs_many in
          ap (λ x. is_some (path_of x)) (dir_items-at t.dirs t.dirs d (omega arith)) ∙ path-used (live (get_or t.dirs d no_entry)) (record { path = item_path t.dirs (get_or t.dirs d no_entry); bytes = [] }) ∙ sym (ap (λ x. x && live (get_or t.dirs d no_entry)) (lt-ltb d 32 l))
      at (inr l) =
          let a = shaped.dirs_many in
          let b = length-dir_items t.dirs t.dirs in
          ap (λ x. is_some (path_of x)) (get_or_past (dir_items t.dirs t.dirs) d None (omega arith)) ∙ sym (ap (λ x. x && live (get_or t.dirs d no_entry)) (le-ltb d 32 l))

      go : (b : Bool) → (d < 32) ⊎ (32 ≤ d) → is_some (cond b (Some []) (path_of (get_or (dir_items t.dirs t.dirs) d None))) ≡ (b || live_dir t.dirs d)
      go true c = refl
      go false c = at c

  pub start_names : (d : ℕ) → starts t d ≡ true → Place t.dirs d × (start_path (tree_of t i) d ≡ Some (climb t.dirs 32 d))
  start_names d h = go (eqb d root) refl h
    where
      alive : Live t.dirs d → path_of (get_or (dir_items t.dirs t.dirs) d None) ≡ Some (climb t.dirs 32 d)
      alive l =
          let a = shaped.dirs_many in
          let z = l.0 in
          ap path_of (dir_items-at t.dirs t.dirs d (omega arith))
          ∙ ap (λ b. path_of (cond b (Some (record { path = item_path t.dirs (get_or t.dirs d no_entry); bytes = [] })) None)) l.1
          ∙ ap Some (sym (climb-live i t s d l))

      go : (b : Bool) → eqb d root ≡ b → (b || live_dir t.dirs d) ≡ true → Place t.dirs d × (start_path (tree_of t i) d ≡ Some (climb t.dirs 32 d))
      go true k h = let e = eqb-true d root k in (inl e, rw e)
      go false k h = let l = live_dir-live t.dirs d h in (inr l, ap (λ b. cond b (Some []) (path_of (get_or (dir_items t.dirs t.dirs) d None))) k ∙ alive l)

  pub from_start : (d : ℕ) (p : List ℕ) → starts t d ≡ true → Place t.dirs d × (whole_path (tree_of t i) d p ≡ climb t.dirs 32 d ++ names p)
  from_start d p h = let a = start_names d h in (a.0, ap (λ o. below o (names p)) a.1)

  pub way-walk : (ns : Path) (d : ℕ) → all_names ns ≡ true → Place t.dirs d → way (tree_of t i) (climb t.dirs 32 d) ns ≡ is_some (holder t d ns)
  way-walk [] d a p = refl
  way-walk (n ∷ []) d a p = refl
  way-walk (n ∷ m ∷ ns) d a p =
      let b = and_parts (proper_name n) (all_names (m ∷ ns)) a in
      ap (λ x. x && way (tree_of t i) (climb t.dirs 32 d ++ n ∷ []) (m ∷ ns)) (push_dir (tree_of t i) (climb t.dirs 32 d) n ∙ ap is_some (dir_number d n p b.0))
      ∙ go (child t.dirs d n) refl b.0 (λ c q. way-walk (m ∷ ns) c b.1 q)
    where
      go : (o : Option ℕ) → child t.dirs d n ≡ o → proper_name n ≡ true → ((c : ℕ) → Place t.dirs c → way (tree_of t i) (climb t.dirs 32 c) (m ∷ ns) ≡ is_some (holder t c (m ∷ ns))) → (is_some o && way (tree_of t i) (climb t.dirs 32 d ++ n ∷ []) (m ∷ ns)) ≡ is_some (walk t o (parent (m ∷ ns)))
      go None k q ih = refl
      go (Some c) k q ih = let r = dir_facts i t shaped s d n c q k in ap (λ x. way (tree_of t i) x (m ∷ ns)) (sym r.1) ∙ ih c (inr r.0)

  -- the item that stands at the end of a way
  pub file_at : (n : Name) (ns : Path) (d e : ℕ) → all_names (n ∷ ns) ≡ true → Place t.dirs d → holder t d (n ∷ ns) ≡ Some e → number_at (tree_of t i).files (climb t.dirs 32 d ++ n ∷ ns) ≡ child t.files e (last (n ∷ ns))
  file_at n ns d e a p k = ap (number_at (tree_of t i).files) (sym (holder-path i t shaped s n ns d e a p k)) ∙ file_number e (last (n ∷ ns)) (walk_facts i t shaped s (parent (n ∷ ns)) d e (parent-names (n ∷ ns) a) p k).0 (last_name n ns a)

  -- a live directory stands in the tree
  live-held : (d : ℕ) → Live t.dirs d → tree_dir (tree_of t i) (climb t.dirs 32 d) ≡ true
  live-held d l =
      ap (tree_dir (tree_of t i)) (climb-live i t s d l)
      ∙ push_dir (tree_of t i) (climb t.dirs 32 (get_or t.dirs d no_entry).parent) (trimmed (get_or t.dirs d no_entry).name)
      ∙ ap is_some (dir_number (get_or t.dirs d no_entry).parent (trimmed (get_or t.dirs d no_entry).name) (s.dirs_proper d l).held (s.dirs_proper d l).named)
      ∙ go (child t.dirs (get_or t.dirs d no_entry).parent (trimmed (get_or t.dirs d no_entry).name)) refl
    where
      itself : is_child (get_or t.dirs d no_entry).parent (trimmed (get_or t.dirs d no_entry).name) (get_or t.dirs d no_entry) ≡ true
      itself = and_from (eqb (get_or t.dirs d no_entry).parent (get_or t.dirs d no_entry).parent) (same_name (get_or t.dirs d no_entry).name (padded (trimmed (get_or t.dirs d no_entry).name))) (eq-eqb (get_or t.dirs d no_entry).parent (get_or t.dirs d no_entry).parent refl) (eq_same_name (get_or t.dirs d no_entry).name (padded (trimmed (get_or t.dirs d no_entry).name)) (s.dirs_proper d l).filled)

      go : (o : Option ℕ) → child t.dirs (get_or t.dirs d no_entry).parent (trimmed (get_or t.dirs d no_entry).name) ≡ o → is_some o ≡ true
      go (Some e) k = refl
      go None k = absurd (both_ways (is_child (get_or t.dirs d no_entry).parent (trimmed (get_or t.dirs d no_entry).name) (get_or t.dirs d no_entry)) (first_none (is_child (get_or t.dirs d no_entry).parent (trimmed (get_or t.dirs d no_entry).name)) no_entry t.dirs k d (let a = l.0 in let b = shaped.dirs_many in omega arith)) itself)

  pub place-held : (d : ℕ) → Place t.dirs d → tree_dir (tree_of t i) (climb t.dirs 32 d) ≡ true
  place-held d (inl e) = ap (λ x. tree_dir (tree_of t i) (climb t.dirs 32 x)) e
  place-held d (inr l) = live-held d l
