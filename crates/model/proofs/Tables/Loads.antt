-- The layout of the tables: what is written loads again.
use Rattle.std.proofs.Common.{◌≡◌, ℕ, zero, suc, ◌+◌, ◌*◌, ◌<◌, List, [], ◌∷◌, ◌++◌, map, length, get_or, Ok, Err, Result, refl, ap, ◌∙◌, ap₂, arith}
use Rattle.std.proofs.lemmas.List.{drop_at, length-append, take_at}
use Rattle.model.specs.Image.{Fault, Image, look, Write, writes}
use Rattle.model.specs.Tables.{tables, Entry, Tables, no_entry, entry, entries_bytes, rows_bytes, parts, entries, after_ok, load}
use Rattle.model.specs.Sound.{Shaped, Sound}
use Rattle.model.proofs.Store.Writes.{Able, left_at, look_left}

rows_back : (n : ℕ) (rs : List (List ℕ)) → length rs ≡ n → ((k : ℕ) → k < n → length (get_or rs k []) ≡ 16) → parts n (rows_bytes rs) ≡ rs
rows_back zero [] e h = refl
rows_back zero (r ∷ rs) e h = absurd (omega arith)
rows_back (suc n) [] e h = absurd (omega arith)
rows_back (suc n) (r ∷ rs) e h =
    let l : length r ≡ 16 = h 0 (omega arith) in
    let ih : parts n (rows_bytes rs) ≡ rs = rows_back n rs (omega arith) (λ k b. h (suc k) (omega arith)) in
    ap₂ ◌∷◌ (take_at r (rows_bytes rs) 16 l) (ap (parts n) (drop_at r (rows_bytes rs) 16 l) ∙ ih)

rows-length : (n : ℕ) (rs : List (List ℕ)) → length rs ≡ n → ((k : ℕ) → k < n → length (get_or rs k []) ≡ 16) → length (rows_bytes rs) ≡ n * 16
rows-length zero [] e h = refl
rows-length zero (r ∷ rs) e h = omega arith
rows-length (suc n) [] e h = omega arith
rows-length (suc n) (r ∷ rs) e h =
    let l : length r ≡ 16 = h 0 (omega arith) in
    let ih : length (rows_bytes rs) ≡ n * 16 = rows-length n rs (omega arith) (λ k b. h (suc k) (omega arith)) in
    let a = length-append r (rows_bytes rs) in
    omega arith

entries_back : (n : ℕ) (es : List Entry) → length es ≡ n → ((k : ℕ) → k < n → length (get_or es k no_entry).name ≡ 15) → map entry (parts n (entries_bytes es)) ≡ es
entries_back zero [] e h = refl
entries_back zero (r ∷ rs) e h = absurd (omega arith)
entries_back (suc n) [] e h = absurd (omega arith)
entries_back (suc n) (r ∷ rs) e h =
    let k : length r.name ≡ 15 = h 0 (omega arith) in
    let l : length (r.parent ∷ r.name) ≡ 16 = ap suc k in
    let ih : map entry (parts n (entries_bytes rs)) ≡ rs = entries_back n rs (omega arith) (λ k b. h (suc k) (omega arith)) in
    ap₂ ◌∷◌ (ap entry (take_at (r.parent ∷ r.name) (entries_bytes rs) 16 l)) (ap (λ x. map entry (parts n x)) (drop_at (r.parent ∷ r.name) (entries_bytes rs) 16 l) ∙ ih)

entries-length : (n : ℕ) (es : List Entry) → length es ≡ n → ((k : ℕ) → k < n → length (get_or es k no_entry).name ≡ 15) → length (entries_bytes es) ≡ n * 16
entries-length zero [] e h = refl
entries-length zero (r ∷ rs) e h = omega arith
entries-length (suc n) [] e h = omega arith
entries-length (suc n) (r ∷ rs) e h =
    let k : length r.name ≡ 15 = h 0 (omega arith) in
    let ih : length (entries_bytes rs) ≡ n * 16 = entries-length n rs (omega arith) (λ k b. h (suc k) (omega arith)) in
    let a : length ((r.parent ∷ r.name) ++ entries_bytes rs) ≡ length (r.parent ∷ r.name) + length (entries_bytes rs) = length-append (r.parent ∷ r.name) (entries_bytes rs) in
    let b : length (r.parent ∷ r.name) ≡ 16 = ap suc k in
    omega arith

-- what load reads
pub record Holds (i : Image) (t : Tables) : Type 0 where
  pub map_at : look i 0x100 ≡ Ok t.marks
  pub dirs-at : (b : List ℕ) × (look i 0x101 ≡ Ok b) × (entries b ≡ t.dirs)
  pub files-at : (b : List ℕ) × (look i 0x102 ≡ Ok b) × (entries b ≡ t.files)
  pub rows_at : (b : List ℕ) × (look i 0x103 ≡ Ok b) × (parts 32 b ≡ t.rows)

abbrev chained : Result (List ℕ) Fault → Result (List ℕ) Fault → Result (List ℕ) Fault → Result (List ℕ) Fault → Result Tables Fault
chained a b c d = after_ok a (λ m. after_ok b (λ d'. after_ok c (λ f. after_ok d (λ s. Ok (tables m d' f s)))))

abbrev Four : (a b c d : Result (List ℕ) Fault) → Tables → Type 0
Four a b c d t = (m d' f s : List ℕ) × (a ≡ Ok m) × (b ≡ Ok d') × (c ≡ Ok f) × (d ≡ Ok s) × (tables m d' f s ≡ t)

pub same_ok : (t u : Tables) → ◌≡◌ {A = Result Tables Fault} (Ok t) (Ok u) → t ≡ u
same_ok t u e = cc

no_ok : (f : Fault) (t : Tables) → ◌≡◌ {A = Result Tables Fault} (Err f) (Ok t) → ⊥
no_ok f t e = cc

four : (a b c d : Result (List ℕ) Fault) (t : Tables) → chained a b c d ≡ Ok t → Four a b c d t
four (Err e) b c d t k = absurd (no_ok e t k)
four (Ok m) (Err e) c d t k = absurd (no_ok e t k)
four (Ok m) (Ok d') (Err e) d t k = absurd (no_ok e t k)
four (Ok m) (Ok d') (Ok f) (Err e) t k = absurd (no_ok e t k)
four (Ok m) (Ok d') (Ok f) (Ok s) t k = (m, d', f, s, refl, refl, refl, refl, same_ok (tables m d' f s) t k)

pub load-holds : (i : Image) (t : Tables) → load i ≡ Ok t → Holds i t
load-holds i t k =
    let q = four (look i 0x100) (look i 0x101) (look i 0x102) (look i 0x103) t k in
    record {
      map_at = q.4 ∙ ap Ok (ap (λ x. x.marks) q.8);
      dirs-at = (q.1, q.5, ap (λ x. x.dirs) q.8);
      files-at = (q.2, q.6, ap (λ x. x.files) q.8);
      rows_at = (q.3, q.7, ap (λ x. x.rows) q.8);
    }

chain_ok : (a b c d : Result (List ℕ) Fault) (m d' f s : List ℕ) → a ≡ Ok m → b ≡ Ok d' → c ≡ Ok f → d ≡ Ok s → chained a b c d ≡ Ok (tables m d' f s)
chain_ok a b c d m d' f s p q r o = ap (λ x. chained x b c d) p ∙ (ap (λ x. chained (Ok m) x c d) q ∙ (ap (λ x. chained (Ok m) (Ok d') x d) r ∙ ap (λ x. chained (Ok m) (Ok d') (Ok f) x) o))

pub holds-load : (i : Image) (t : Tables) → Holds i t → load i ≡ Ok t
holds-load i t h =
    let e = chain_ok (look i 0x100) (look i 0x101) (look i 0x102) (look i 0x103) t.marks h.dirs-at.0 h.files-at.0 h.rows_at.0 h.map_at h.dirs-at.1 h.files-at.1 h.rows_at.1 in
    let p = h.dirs-at.2 in let q = h.files-at.2 in let r = h.rows_at.2 in
    e ∙ (λ j. Ok (record { marks = t.marks; dirs = p j; files = q j; rows = r j }))

-- writes leave the tables u where they leave these bytes in the four sectors
pub holds_after : (i : Image) (t u : Tables) (ws : List Write) → Able i ws → (h : Holds i t) (d f r : List ℕ) → left_at 0x100 ws t.marks ≡ u.marks → left_at 0x101 ws h.dirs-at.0 ≡ d → entries d ≡ u.dirs → left_at 0x102 ws h.files-at.0 ≡ f → entries f ≡ u.files → left_at 0x103 ws h.rows_at.0 ≡ r → parts 32 r ≡ u.rows → Holds (writes ws i).image u
holds_after i t u ws a h d f r m p q x y v w =
    record {
      map_at = look_left ws i 0x100 t.marks a h.map_at ∙ ap Ok m;
      dirs-at = (d, look_left ws i 0x101 h.dirs-at.0 a h.dirs-at.1 ∙ ap Ok p, q);
      files-at = (f, look_left ws i 0x102 h.files-at.0 a h.files-at.1 ∙ ap Ok x, y);
      rows_at = (r, look_left ws i 0x103 h.rows_at.0 a h.rows_at.1 ∙ ap Ok v, w);
    }

-- the encodings of shaped tables
module _ (t : Tables) (shaped : Shaped t) where
  pub dirs_back : entries (entries_bytes t.dirs) ≡ t.dirs
  dirs_back = entries_back 32 t.dirs shaped.dirs_many shaped.dirs_named

  pub files_back : entries (entries_bytes t.files) ≡ t.files
  files_back = entries_back 32 t.files shaped.files_many shaped.files_named

  pub rows-again : parts 32 (rows_bytes t.rows) ≡ t.rows
  rows-again = rows_back 32 t.rows shaped.rows_many shaped.rows_long

  pub dirs_512 : length (entries_bytes t.dirs) ≡ 512
  dirs_512 = entries-length 32 t.dirs shaped.dirs_many shaped.dirs_named

  pub files_512 : length (entries_bytes t.files) ≡ 512
  files_512 = entries-length 32 t.files shaped.files_many shaped.files_named

  pub rows_512 : length (rows_bytes t.rows) ≡ 512
  rows_512 = rows-length 32 t.rows shaped.rows_many shaped.rows_long

-- what the proof of a call gives
pub record Next (i : Image) (u : Tables) (ws : List Write) : Type 0 where
  pub able : Able i ws
  pub holds : Holds (writes ws i).image u
  pub shaped : Shaped u
  pub facts : Sound i u
