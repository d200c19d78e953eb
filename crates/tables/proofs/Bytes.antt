-- A sector as pieces of sixteen bytes, read and written one by one. The loop that writes has these laws in its invariant.
use Rattle.std.proofs.Common.{◌≡◌, ℕ, zero, suc, ◌+◌, ◌-◌, ◌*◌, ◌<◌, ◌≤◌, List, [], ◌∷◌, ◌++◌, map, length, get_or, take, drop, set, sym, refl, ap, ◌∙◌, ap₂, arith}
use borrow.Rule.Slice.PartMut.{put_mid, same_len_mid}
use Rattle.std.proofs.lemmas.List.{append_assoc, append-nil, length-set, map_more, take_all, take_more_set}
use Rattle.std.proofs.lemmas.Slice.{take-put_mid}
use Rattle.model.specs.Tables.{Entry as ModelEntry, entries_bytes, parts, rows_bytes}
use Rattle.tables.specs.Views.{entry_view, entries_view, rows_view}
use Rattle.tables.specs.declared.types.Entry.{Entry}
use Rattle.tables.specs.declared.types.Row.{Row}

pub parts-length : (n : ℕ) (bs : List ℕ) → length (parts n bs) ≡ n
parts-length zero bs = refl
parts-length (suc n) bs = ap suc (parts-length n (drop 16 bs))

pub entries_joined : (es : List Entry) → rows_bytes (map (λ (e : Entry). e.parent ∷ e.name) es) ≡ entries_bytes (entries_view es)
entries_joined [] = refl
entries_joined (e ∷ es) = ap (λ bs. (e.parent ∷ e.name) ++ bs) (entries_joined es)

entries_push : (es : List ModelEntry) (e : ModelEntry) → entries_bytes (es ++ e ∷ []) ≡ entries_bytes es ++ (e.parent ∷ e.name)
entries_push [] e = append-nil (e.parent ∷ e.name)
entries_push (d ∷ es) e = ap (λ bs. (d.parent ∷ d.name) ++ bs) (entries_push es e) ∙ sym (append_assoc (d.parent ∷ d.name) (entries_bytes es) (e.parent ∷ e.name))

rows_push : (rs : List (List ℕ)) (r : List ℕ) → rows_bytes (rs ++ r ∷ []) ≡ rows_bytes rs ++ r
rows_push [] r = append-nil r
rows_push (q ∷ rs) r = ap (λ bs. q ++ bs) (rows_push rs r) ∙ sym (append_assoc q (rows_bytes rs) r)

-- all is written
wrote_all : {A : Type 0} (F : List A → List ℕ) (bs : List ℕ) (k : ℕ) (xs : List A) (i : ℕ) → length bs ≤ k → length xs ≤ i → take k bs ≡ F (take i xs) → bs ≡ F xs
wrote_all F bs k xs i l m s = sym (take_all k bs l) ∙ s ∙ ap F (take_all i xs m)

-- the bytes of the first i rows
abbrev pub RowsIn : List Row → ℕ → List ℕ → Type 0
RowsIn rs i bs = take (16 * i) bs ≡ rows_bytes (rows_view (take i rs))

pub record RowWrites (rs : List Row) : Type 0 where
  pub more : (bs new : List ℕ) (i : ℕ) (r : Row) → i < length rs → 16 * length rs ≤ length bs → RowsIn rs i bs → new ≡ (get_or rs i r).places → RowsIn rs (i + 1) (put_mid (16 * i) (16 * i + 16 - 16 * i) bs new)
  pub long : (bs new : List ℕ) (i : ℕ) → length new ≡ length (take (16 * i + 16 - 16 * i) (drop (16 * i) bs)) → length (put_mid (16 * i) (16 * i + 16 - 16 * i) bs new) ≡ length bs
  pub over : (bs : List ℕ) (i : ℕ) → length bs ≤ 16 * i → length rs ≤ i → RowsIn rs i bs → bs ≡ rows_bytes (rows_view rs)

pub row-writes : (rs : List Row) → RowWrites rs
row-writes rs =
    record {
      more =
          λ bs new i r l m s e.
          let n : length new ≡ 16 = ap length e ∙ (get_or rs i r).sized in
          take-put_mid (16 * i) (16 * i + 16 - 16 * i) bs new (16 * (i + 1)) (omega arith) (omega arith)
          ∙ ap₂ ◌++◌ s e
          ∙ sym (rows_push (rows_view (take i rs)) (get_or rs i r).places)
          ∙ ap rows_bytes (sym (map_more (λ (x : Row). x.places) rs i r l));
      long = λ bs new i n. same_len_mid (16 * i) (16 * i + 16 - 16 * i) bs new n;
      over = λ bs i l m s. wrote_all (λ xs. rows_bytes (rows_view xs)) bs (16 * i) rs i l m s;
    }

-- the bytes of the first i entries
abbrev pub EntriesIn : List Entry → ℕ → List ℕ → Type 0
EntriesIn es i bs = take (16 * i) bs ≡ entries_bytes (entries_view (take i es))

pub record EntryWrites (es : List Entry) : Type 0 where
  pub more : (bs new : List ℕ) (i : ℕ) (e : Entry) → i < length es → 16 * length es ≤ length bs → EntriesIn es i bs → new ≡ (get_or es i e).name → EntriesIn es (i + 1) (put_mid (16 * i + 1) (16 * i + 16 - (16 * i + 1)) (set bs (16 * i) (get_or es i e).parent) new)
  pub long : (bs new : List ℕ) (i p : ℕ) → length new ≡ length (take (16 * i + 16 - (16 * i + 1)) (drop (16 * i + 1) (set bs (16 * i) p))) → length (put_mid (16 * i + 1) (16 * i + 16 - (16 * i + 1)) (set bs (16 * i) p) new) ≡ length bs
  pub over : (bs : List ℕ) (i : ℕ) → length bs ≤ 16 * i → length es ≤ i → EntriesIn es i bs → bs ≡ entries_bytes (entries_view es)

pub entry-writes : (es : List Entry) → EntryWrites es
entry-writes es =
    record {
      more =
          λ bs new i e l m s h.
          let p = (get_or es i e).parent in
          let n : length new ≡ 15 = ap length h ∙ (get_or es i e).sized in
          take-put_mid (16 * i + 1) (16 * i + 16 - (16 * i + 1)) (set bs (16 * i) p) new (16 * (i + 1)) (omega arith) (let k = length-set bs (16 * i) p in omega arith)
          ∙ ap (λ xs. xs ++ new) (take_more_set bs (16 * i) p (omega arith))
          ∙ append_assoc (take (16 * i) bs) (p ∷ []) new
          ∙ ap₂ (λ xs ys. xs ++ (p ∷ ys)) s h
          ∙ sym (entries_push (entries_view (take i es)) (entry_view (get_or es i e)))
          ∙ ap entries_bytes (sym (map_more entry_view es i e l));
      long = λ bs new i p n. same_len_mid (16 * i + 1) (16 * i + 16 - (16 * i + 1)) (set bs (16 * i) p) new n ∙ length-set bs (16 * i) p;
      over = λ bs i l m s. wrote_all (λ xs. entries_bytes (entries_view xs)) bs (16 * i) es i l m s;
    }
