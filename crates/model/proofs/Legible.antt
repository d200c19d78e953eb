-- The sectors that `read` and `book` read: none of them meets a fault, and their bytes are those of the tree.
use Rattle.std.proofs.Common.{◌≡◌, ℕ, zero, suc, ◌<◌, Bool, true, false, cond, not, ◌&&◌, ◌||◌, eqb, leb, List, [], ◌∷◌, ◌++◌, map, length, get_or, drop, Some, None, Ok, Err, Result, sym, refl, ap, ◌∙◌, subst, ap₂, arith}
use Rattle.std.proofs.lemmas.List.{map-append, append_assoc}
use Rattle.std.proofs.lemmas.Bool.{and_parts, and_from}
use Rattle.model.specs.Image.{Image, Fault, look, is_ok, all, read_on, reads}
use Rattle.model.specs.Refusals.{picked, misspelt, start, lost, read}
use Rattle.model.specs.Names.{spelt, path_before}
use Rattle.model.specs.Tables.{Tables, Entry, no_entry, live, used, row, live_places, alive, data_sector, proper_row, proper_rows, sound, marks_right, proper_entry, live_dir, climbs, each, unshared, distinct}
use Rattle.model.specs.Tree.{directory, file}
use Rattle.model.specs.Book.{Line, lines_of, insert, sorted, contents, bodies}
use Rattle.model.specs.Sound.{Shaped, Live}
use Rattle.model.specs.Volume.{named, starts, is_file, number_of, item_path, bytes_or_blank, body, dir_items, file_items_by, tree_by, tree_of, book_sectors, checks}
use Rattle.model.proofs.Common.Tests.{implied}
use Rattle.model.proofs.Ready.{Ready}
use Rattle.model.proofs.Tables.{sound_facts, facts_sound}
use Rattle.model.proofs.Tables.Rules.{held-from}
use Rattle.model.proofs.Tables.Walks.{found, file_out}
use Rattle.model.proofs.Calls.Checks.{pass_not}

-- live sectors are read one after another ------------------------------------------------------------

pub record Legible (ss : List ℕ) (i : Image) : Type 0 where
  pub no_fault : (reads ss i).fault ≡ None
  pub bytes-are : (reads ss i).bytes ≡ body i ss

pub legible : (ss : List ℕ) (i : Image) → all (alive i) ss ≡ true → Legible ss i
legible [] i h = record { no_fault = refl; bytes-are = refl }
legible (s ∷ ss) i h =
    let parts = and_parts (alive i s) (all (alive i) ss) h in
    let rest = legible ss i parts.1 in
    let both = go (look i s) parts.0 rest in
    record { no_fault = both.0; bytes-are = both.1 }
  where
    go : (l : Result (List ℕ) Fault) → is_ok l ≡ true → Legible ss i → ((read_on l (reads ss i)).fault ≡ None) × ((read_on l (reads ss i)).bytes ≡ bytes_or_blank l ++ body i ss)
    go (Ok b) o r = (r.no_fault, ap (λ (x : List ℕ). b ++ x) r.bytes-are)
    go (Err f) o r = absurd cc

-- the sectors of all live rows ---------------------------------------------------------------------------

all_join : {A : Type 0} (f : A → Bool) (xs ys : List A) → all f xs ≡ true → all f ys ≡ true → all f (xs ++ ys) ≡ true
all_join f [] ys a b = b
all_join f (x ∷ xs) ys a b = let u = and_parts (f x) (all f xs) a in and_from (f x) (all f (xs ++ ys)) u.0 (all_join f xs ys u.1 b)

all_second : (f g : ℕ → Bool) (xs : List ℕ) → all (λ s. f s && g s) xs ≡ true → all g xs ≡ true
all_second f g [] h = refl
all_second f g (x ∷ xs) h =
    let u = and_parts (f x && g x) (all (λ s. f s && g s) xs) h in
    and_from (g x) (all g xs) (and_parts (f x) (g x) u.0).1 (all_second f g xs u.1)

row-alive : (lives : ℕ → Bool) (r : List ℕ) → proper_row lives r ≡ true → all lives (used r) ≡ true
row-alive lives r h =
    let u = and_parts (leb 1 (length (used r)) && all (λ s. data_sector s && lives s) (used r)) (all (λ s. eqb s 0) (drop (length (used r)) r)) h in
    all_second data_sector lives (used r) (and_parts (leb 1 (length (used r))) (all (λ s. data_sector s && lives s) (used r)) u.0).1

proper_at : (lives : ℕ → Bool) (es : List Entry) (rs : List (List ℕ)) (f : ℕ) → length es ≡ length rs → proper_rows lives es rs ≡ true → f < length es → live (get_or es f no_entry) ≡ true → proper_row lives (get_or rs f []) ≡ true
proper_at lives [] rs f l h b v = absurd (omega arith)
proper_at lives (e ∷ es) [] f l h b v = absurd (omega arith)
proper_at lives (e ∷ es) (r ∷ rs) zero l h b v = implied (live e) (proper_row lives r) v (and_parts (not (live e) || proper_row lives r) (proper_rows lives es rs) h).0
proper_at lives (e ∷ es) (r ∷ rs) (suc f) l h b v = proper_at lives es rs f (omega arith) (and_parts (not (live e) || proper_row lives r) (proper_rows lives es rs) h).1 (omega arith) v

sound-rows : (i : Image) (t : Tables) → sound i t ≡ true → proper_rows (alive i) t.files t.rows ≡ true
sound-rows i t h =
    let d = t.dirs in
    let f = t.files in
    let a = and_parts (marks_right (alive i) t && (all (proper_entry d) d && all (proper_entry d) f) && each 0 32 (λ x. not (live_dir d x) || climbs d 32 x) && unshared (d ++ f)) (proper_rows (alive i) f t.rows && distinct (live_places f t.rows)) h in
    (and_parts (proper_rows (alive i) f t.rows) (distinct (live_places f t.rows)) a.1).0

-- the sectors of a book ----------------------------------------------------------------------------------------

-- the order of lines does not look at bytes
abbrev with-bytes : (List ℕ → List ℕ) → Line → Line
with-bytes f l = record { kind = l.kind; path = l.path; bytes = f l.bytes }

insert-with : (f : List ℕ → List ℕ) (l : Line) (ms : List Line) → insert (with-bytes f l) (map (with-bytes f) ms) ≡ map (with-bytes f) (insert l ms)
insert-with f l [] = refl
insert-with f l (m ∷ ms) = go (path_before l.path m.path) (insert-with f l ms)
  where
    go : (b : Bool) → insert (with-bytes f l) (map (with-bytes f) ms) ≡ map (with-bytes f) (insert l ms) → cond b (with-bytes f l ∷ with-bytes f m ∷ map (with-bytes f) ms) (with-bytes f m ∷ insert (with-bytes f l) (map (with-bytes f) ms)) ≡ map (with-bytes f) (cond b (l ∷ m ∷ ms) (m ∷ insert l ms))
    go true e = refl
    go false e = ap (λ (x : List Line). with-bytes f m ∷ x) e

sorted-with : (f : List ℕ → List ℕ) (ls : List Line) → sorted (map (with-bytes f) ls) ≡ map (with-bytes f) (sorted ls)
sorted-with f [] = refl
sorted-with f (l ∷ ls) = ap (insert (with-bytes f l)) (sorted-with f ls) ∙ insert-with f l (sorted ls)

file_lines : (f : List ℕ → List ℕ) (ds es : List Entry) (rs : List (List ℕ)) → lines_of file (file_items_by f ds es rs) ≡ map (with-bytes f) (lines_of file (file_items_by (λ ss. ss) ds es rs))
file_lines f ds [] rs = refl
file_lines f ds (e ∷ es) [] = refl
file_lines f ds (e ∷ es) (r ∷ rs) = go (live e) (file_lines f ds es rs)
  where
    go : (b : Bool) → lines_of file (file_items_by f ds es rs) ≡ map (with-bytes f) (lines_of file (file_items_by (λ ss. ss) ds es rs)) → lines_of file (cond b (Some (record { path = item_path ds e; bytes = f (used r) })) None ∷ file_items_by f ds es rs) ≡ map (with-bytes f) (lines_of file (cond b (Some (record { path = item_path ds e; bytes = used r })) None ∷ file_items_by (λ ss. ss) ds es rs))
    go true h = ap (λ (x : List Line). record { kind = file; path = item_path ds e; bytes = f (used r) } ∷ x) h
    go false h = h

dir_lines : (i : Image) (ds es : List Entry) → lines_of directory (dir_items ds es) ≡ map (with-bytes (body i)) (lines_of directory (dir_items ds es))
dir_lines i ds [] = refl
dir_lines i ds (e ∷ es) = go (live e) (dir_lines i ds es)
  where
    go : (b : Bool) → lines_of directory (dir_items ds es) ≡ map (with-bytes (body i)) (lines_of directory (dir_items ds es)) → lines_of directory (cond b (Some (record { path = item_path ds e; bytes = [] })) None ∷ dir_items ds es) ≡ map (with-bytes (body i)) (lines_of directory (cond b (Some (record { path = item_path ds e; bytes = [] })) None ∷ dir_items ds es))
    go true h = ap (λ (x : List Line). record { kind = directory; path = item_path ds e; bytes = [] } ∷ x) h
    go false h = h

contents-with : (i : Image) (t : Tables) → contents (tree_of t i) ≡ map (with-bytes (body i)) (contents (tree_by (λ ss. ss) t))
contents-with i t =
    let ds = lines_of directory (dir_items t.dirs t.dirs) in
    let fs = lines_of file (file_items_by (λ ss. ss) t.dirs t.files t.rows) in
    ap sorted (ap₂ (λ (x y : List Line). x ++ y) (dir_lines i t.dirs t.dirs) (file_lines (body i) t.dirs t.files t.rows) ∙ sym (map-append (with-bytes (body i)) ds fs))
    ∙ sorted-with (body i) (ds ++ fs)

body-append : (i : Image) (xs ys : List ℕ) → body i (xs ++ ys) ≡ body i xs ++ body i ys
body-append i [] ys = refl
body-append i (x ∷ xs) ys = ap (λ (z : List ℕ). bytes_or_blank (look i x) ++ z) (body-append i xs ys) ∙ sym (append_assoc (bytes_or_blank (look i x)) (body i xs) (body i ys))

bodies-with : (i : Image) (ls : List Line) → bodies (map (with-bytes (body i)) ls) ≡ body i (bodies ls)
bodies-with i [] = refl
bodies-with i (l ∷ ls) = ap (λ (z : List ℕ). body i l.bytes ++ z) (bodies-with i ls) ∙ sym (body-append i l.bytes (bodies ls))

-- the bodies of a book are the bytes of its sectors
pub book-body : (i : Image) (t : Tables) → bodies (contents (tree_of t i)) ≡ body i (book_sectors t)
book-body i t = ap bodies (contents-with i t) ∙ bodies-with i (contents (tree_by (λ ss. ss) t))

-- all of them are alive, since the lines are those of the live rows in another order
all_insert : (f : ℕ → Bool) (l : Line) (ms : List Line) → all f l.bytes ≡ true → all f (bodies ms) ≡ true → all f (bodies (insert l ms)) ≡ true
all_insert f l [] a b = all_join f l.bytes [] a refl
all_insert f l (m ∷ ms) a b = go (path_before l.path m.path) (all_insert f l ms a (split m.bytes (bodies ms) b).1)
  where
    split : (xs ys : List ℕ) → all f (xs ++ ys) ≡ true → (all f xs ≡ true) × (all f ys ≡ true)
    split [] ys h = (refl, h)
    split (x ∷ xs) ys h =
        let u = and_parts (f x) (all f (xs ++ ys)) h in
        let v = split xs ys u.1 in
        (and_from (f x) (all f xs) u.0 v.0, v.1)

    go : (c : Bool) → all f (bodies (insert l ms)) ≡ true → all f (bodies (cond c (l ∷ m ∷ ms) (m ∷ insert l ms))) ≡ true
    go true h = all_join f l.bytes (m.bytes ++ bodies ms) a b
    go false h = all_join f m.bytes (bodies (insert l ms)) (split m.bytes (bodies ms) b).0 h

abbrev EachBody : (ℕ → Bool) → List Line → Type 0
EachBody f [] = Unit {0}
EachBody f (l ∷ ls) = (all f l.bytes ≡ true) × EachBody f ls

each_append : (f : ℕ → Bool) (ls ms : List Line) → EachBody f ls → EachBody f ms → EachBody f (ls ++ ms)
each_append f [] ms a b = b
each_append f (l ∷ ls) ms a b = (a.0, each_append f ls ms a.1 b)

all-sorted : (f : ℕ → Bool) (ls : List Line) → EachBody f ls → all f (bodies (sorted ls)) ≡ true
all-sorted f [] a = refl
all-sorted f (l ∷ ls) a = all_insert f l (sorted ls) a.0 (all-sorted f ls a.1)

dirs-each : (f : ℕ → Bool) (ds es : List Entry) → EachBody f (lines_of directory (dir_items ds es))
dirs-each f ds [] = tt
dirs-each f ds (e ∷ es) = go (live e) (dirs-each f ds es)
  where
    go : (b : Bool) → EachBody f (lines_of directory (dir_items ds es)) → EachBody f (lines_of directory (cond b (Some (record { path = item_path ds e; bytes = [] })) None ∷ dir_items ds es))
    go true h = (refl, h)
    go false h = h

files-each : (f : ℕ → Bool) (ds es : List Entry) (rs : List (List ℕ)) → proper_rows f es rs ≡ true → EachBody f (lines_of file (file_items_by (λ ss. ss) ds es rs))
files-each f ds [] rs h = tt
files-each f ds (e ∷ es) [] h = tt
files-each f ds (e ∷ es) (r ∷ rs) h =
    let u = and_parts (not (live e) || proper_row f r) (proper_rows f es rs) h in
    go (live e) u.0 (files-each f ds es rs u.1)
  where
    go : (b : Bool) → (not b || proper_row f r) ≡ true → EachBody f (lines_of file (file_items_by (λ ss. ss) ds es rs)) → EachBody f (lines_of file (cond b (Some (record { path = item_path ds e; bytes = used r })) None ∷ file_items_by (λ ss. ss) ds es rs))
    go true p rest = (row-alive f r p, rest)
    go false p rest = rest

book_legible : (i : Image) (t : Tables) → sound i t ≡ true → Legible (book_sectors t) i
book_legible i t h =
    legible (book_sectors t) i
    (all-sorted (alive i) (lines_of directory (dir_items t.dirs t.dirs) ++ lines_of file (file_items_by (λ ss. ss) t.dirs t.files t.rows))
    (each_append (alive i) (lines_of directory (dir_items t.dirs t.dirs)) (lines_of file (file_items_by (λ ss. ss) t.dirs t.files t.rows)) (dirs-each (alive i) t.dirs t.dirs) (files-each (alive i) t.dirs t.files t.rows (sound-rows i t h))))

-- the sectors of a file that `read` accepts -----------------------------------------------------------------------

row_legible : (i : Image) (t : Tables) → Shaped t → sound i t ≡ true → (f : ℕ) → Live t.files f → Legible (used (row t f)) i
row_legible i t shaped h f v =
    legible (used (row t f)) i (row-alive (alive i) (row t f) (proper_at (alive i) t.files t.rows f (shaped.files_many ∙ sym shaped.rows_many) (sound-rows i t h) (subst (λ (n : ℕ). f < n) (sym shaped.files_many) v.0) v.1))

read_legible : (i : Image) (t : Tables) → Shaped t → sound i t ≡ true → (d : ℕ) (p b : List ℕ) → picked (checks t i (read d p b)) ≡ None → Legible (used (row t (number_of (named t d p)))) i
read_legible i t shaped h d p b accepted =
    let a = pass_not (spelt p) misspelt _ accepted in
    let c = pass_not (starts t d) start _ a.1 in
    let e = pass_not (is_file (named t d p)) lost _ c.1 in
    let x = file_out (named t d p) e.0 in
    let v = (found i t shaped (sound_facts i t shaped h) d p file x.0 a.0 (held-from t.dirs d c.0) x.1).0 in
    subst (λ (j : ℕ). Legible (used (row t j)) i) (sym (ap number_of x.1)) (row_legible i t shaped h x.0 v)

-- on a volume that is ready --------------------------------------------------------------------------------------

pub ready-reads : (i : Image) (t : Tables) → Ready i t → (d : ℕ) (p b : List ℕ) → picked (checks t i (read d p b)) ≡ None → Legible (used (row t (number_of (named t d p)))) i
ready-reads i t r d p b = read_legible i t r.shaped (facts_sound i t r.shaped r.facts) d p b

pub ready_books : (i : Image) (t : Tables) → Ready i t → Legible (book_sectors t) i
ready_books i t r = book_legible i t (facts_sound i t r.shaped r.facts)
