-- The tree of a volume that stands is one that books tell apart.
use Rattle.std.proofs.Common.{◌≡◌, ℕ, zero, suc, ◌+◌, ◌*◌, ◌<◌, ◌≤◌, true, ◌⊎◌, [], length, get_or, Some, None, sym, refl, ap, ◌∙◌, subst, inl, inr, arith}
use Rattle.std.proofs.lemmas.Option.{none-some}
use Rattle.std.proofs.lemmas.List.{get_or_past, length_push}
use Rattle.std.proofs.lemmas.Bool.{cases_lt, ne_eqb}
use Rattle.model.specs.Image.{Image}
use Rattle.model.specs.Names.{Path, all_names}
use Rattle.model.specs.Tables.{root, Entry, Tables, no_entry, live, trimmed, used, climbs}
use Rattle.model.specs.Tree.{Item, is_dir as tree_dir}
use Rattle.model.specs.Book.{parent}
use Rattle.model.specs.Volume.{climb, item_path, body, dir_items, file_items, tree_of}
use Rattle.model.specs.Sound.{Shaped, Live, Proper, Sound}
use Rattle.model.specs.Law.{whole}
use Rattle.model.proofs.Naming.Spelling.{names_push, parent_push}
use Rattle.model.proofs.Tables.Climbs.{up, Step, climbs_cases, climb-root, climb-up, place-climbs}
use Rattle.model.proofs.Tables.Places.{used-short, row-length}
use Rattle.model.proofs.Tables.Walks.{live_at}
use Rattle.model.proofs.Trees.Items.{length-dir_items, dir_items-at, length-file_items, file_items-at, place-held}
use Rattle.model.proofs.Trees.Keeps.{dirs-one, files-one, kinds_two, rows_same}
use Rattle.model.proofs.Trees.Slots.{it_out}
use Rattle.model.proofs.Books.{FileItem, Wellformed}

module _ (i : Image) (t : Tables) (w : whole i ≡ true) (shaped : Shaped t) (s : Sound i t) where
  climb-names : (n d : ℕ) → climbs t.dirs n d ≡ true → all_names (climb t.dirs n d) ≡ true
  climb-names zero d c = refl
  climb-names (suc n) d c = go (λ x a. climb-names n x a) (climbs_cases t.dirs n d c)
    where
      go : ((x : ℕ) → climbs t.dirs n x ≡ true → all_names (climb t.dirs n x) ≡ true) → Step t.dirs n d → all_names (climb t.dirs (suc n) d) ≡ true
      go ih (inl e) = ap all_names (ap (climb t.dirs (suc n)) e ∙ climb-root t.dirs (suc n))
      go ih (inr r) = ap all_names (climb-up t.dirs n d (ne_eqb d root r.0)) ∙ names_push (climb t.dirs n (up t.dirs d)) (trimmed (get_or t.dirs d no_entry).name) (ih (up t.dirs d) r.2) (s.dirs_proper d r.1).named

  path_names : (e : Entry) → Proper t.dirs e → all_names (item_path t.dirs e) ≡ true
  path_names e p = names_push (climb t.dirs 32 e.parent) (trimmed e.name) (climb-names 32 e.parent (place-climbs i t s e.parent p.held)) p.named

  path-long : (e : Entry) → 1 ≤ length (item_path t.dirs e)
  path-long e = let a = length_push (climb t.dirs 32 e.parent) (trimmed e.name) in long (length (climb t.dirs 32 e.parent)) (length (item_path t.dirs e)) a
    where
      long : (a b : ℕ) → b ≡ a + 1 → 1 ≤ b
      long a b e = omega arith

  pub dir_out : (n : ℕ) (x : Item) → get_or (dir_items t.dirs t.dirs) n None ≡ Some x → Live t.dirs n × (x.path ≡ item_path t.dirs (get_or t.dirs n no_entry)) × (x.bytes ≡ [])
  dir_out n x e = go (cases_lt n (length t.dirs))
    where
      go : (n < length t.dirs) ⊎ (length t.dirs ≤ n) → Live t.dirs n × (x.path ≡ item_path t.dirs (get_or t.dirs n no_entry)) × (x.bytes ≡ [])
      go (inl l) = let o = it_out (live (get_or t.dirs n no_entry)) (item_path t.dirs (get_or t.dirs n no_entry)) [] x (sym (dir_items-at t.dirs t.dirs n l) ∙ e) in (live_at t.dirs shaped.dirs_many n l o.0, o.1, o.2)
      go (inr l) = let a = length-dir_items t.dirs t.dirs in let m : length (dir_items t.dirs t.dirs) ≤ n = omega arith in absurd (none-some x (sym (get_or_past (dir_items t.dirs t.dirs) n None m) ∙ e))

  pub file_out : (n : ℕ) (x : Item) → get_or (file_items t.dirs i t.files t.rows) n None ≡ Some x → Live t.files n × (x.path ≡ item_path t.dirs (get_or t.files n no_entry)) × (x.bytes ≡ body i (used (get_or t.rows n [])))
  file_out n x e = go (cases_lt n (length t.files))
    where
      same : length t.files ≡ length t.rows
      same = rows_same i t shaped s

      go : (n < length t.files) ⊎ (length t.files ≤ n) → Live t.files n × (x.path ≡ item_path t.dirs (get_or t.files n no_entry)) × (x.bytes ≡ body i (used (get_or t.rows n [])))
      go (inl l) = let r : n < length t.rows = omega arith in let o = it_out (live (get_or t.files n no_entry)) (item_path t.dirs (get_or t.files n no_entry)) (body i (used (get_or t.rows n []))) x (sym (file_items-at t.dirs i t.files t.rows n l r) ∙ e) in (live_at t.files shaped.files_many n l o.0, o.1, o.2)
      go (inr l) = let a = length-file_items t.dirs i t.files t.rows same in let m : length (file_items t.dirs i t.files t.rows) ≤ n = omega arith in absurd (none-some x (sym (get_or_past (file_items t.dirs i t.files t.rows) n None m) ∙ e))

  entry-held : (e : Entry) (x : Item) → x.path ≡ item_path t.dirs e → Proper t.dirs e → tree_dir (tree_of t i) (parent x.path) ≡ true
  entry-held e x h p = ap (tree_dir (tree_of t i)) (ap parent h ∙ parent_push (climb t.dirs 32 e.parent) (trimmed e.name)) ∙ place-held i t shaped s e.parent p.held

  file_sized : (n : ℕ) (x : Item) → Live t.files n → x.bytes ≡ body i (used (get_or t.rows n [])) → FileItem x
  file_sized n x l e = sized (length x.bytes) (length (used (get_or t.rows n []))) (length (get_or t.rows n [])) (ap length e ∙ row-length i (get_or t.rows n []) w (s.rows_proper n l)) (s.rows_proper n l).some_used (used-short (get_or t.rows n [])) (shaped.rows_long n l.0)
    where
      low : (a b : ℕ) → a ≡ 512 * b → 1 ≤ b → 512 ≤ a
      low a b p q = omega arith

      high : (a b c : ℕ) → a ≡ 512 * b → b ≤ c → c ≡ 16 → a ≤ 8192
      high a b c p q r = omega arith

      sized : (a b c : ℕ) → length x.bytes ≡ 512 * b → 1 ≤ b → b ≤ c → c ≡ 16 → FileItem x
      sized a b c p q r o = record { least = low (length x.bytes) b p q; most = high (length x.bytes) b c p r o; sectors = (b, p) }

  pub wellformed : Wellformed (tree_of t i)
  wellformed = record {
    dirs_many = length-dir_items t.dirs t.dirs ∙ shaped.dirs_many;
    files_many = length-file_items t.dirs i t.files t.rows (rows_same i t shaped s) ∙ shaped.files_many;
    dirs_named = λ n x h. let o = dir_out n x h in (ap all_names o.1 ∙ path_names (get_or t.dirs n no_entry) (s.dirs_proper n o.0), subst (λ (p : Path). 1 ≤ length p) (sym o.1) (path-long (get_or t.dirs n no_entry)), o.2);
    files_named = λ n x h. let o = file_out n x h in (ap all_names o.1 ∙ path_names (get_or t.files n no_entry) (s.files_proper n o.0), subst (λ (p : Path). 1 ≤ length p) (sym o.1) (path-long (get_or t.files n no_entry)), file_sized n x o.0 o.2);
    dirs_apart = λ n m x y h k e. let o = dir_out n x h in let q = dir_out m y k in dirs-one i t shaped s n m o.0 q.0 (sym o.1 ∙ e ∙ q.1);
    files_apart = λ n m x y h k e. let o = file_out n x h in let q = file_out m y k in files-one i t shaped s n m o.0 q.0 (sym o.1 ∙ e ∙ q.1);
    kinds_apart = λ n m x y h k e. let o = dir_out n x h in let q = file_out m y k in kinds_two i t shaped s n m o.0 q.0 (sym o.1 ∙ e ∙ q.1);
    dirs-held = λ n x h. let o = dir_out n x h in entry-held (get_or t.dirs n no_entry) x o.1 (s.dirs_proper n o.0);
    files-held = λ n x h. let o = file_out n x h in entry-held (get_or t.files n no_entry) x o.1 (s.files_proper n o.0);
  }
