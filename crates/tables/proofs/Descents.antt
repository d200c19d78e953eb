-- One name down a path, and its end.
use Rattle.std.proofs.Common.{◌≡◌, ℕ, ◌+◌, ◌-◌, ◌≤◌, List, [], ◌∷◌, length, take, drop, Some, None, Option, sym, refl, ap, ◌∙◌, ap₂, arith}
use Rattle.std.proofs.lemmas.List.{length-drop, take_rest}
use Rattle.model.specs.Book.{last, parent}
use Rattle.model.specs.Names.{Name, Path, cut, names}
use Rattle.model.specs.Tables.{Tables}
use Rattle.model.specs.Tree.{first}
use Rattle.model.specs.Volume.{child, holder, walk}
use Rattle.tables.proofs.Cuts.{is_slash, cut_at, cut_parts, cut-whole}

parent_more : (n : Name) (bs : List ℕ) → parent (n ∷ cut bs) ≡ n ∷ parent (cut bs)
parent_more n bs = let h = cut_parts bs in ap (λ ns. parent (n ∷ ns)) h.2 ∙ ap (λ ns. n ∷ parent ns) (sym h.2)

last_more : (n : Name) (bs : List ℕ) → last (n ∷ cut bs) ≡ last (cut bs)
last_more n bs = let h = cut_parts bs in ap (λ ns. last (n ∷ ns)) h.2 ∙ ap last (sym h.2)

walk_lost : (t : Tables) (ns : Path) → walk t None ns ≡ None
walk_lost t [] = refl
walk_lost t (n ∷ ns) = refl

-- w is what the walk answers that goes on from d along p
abbrev pub Walks : Tables → Option ℕ → ℕ → List ℕ → Type 0
Walks t w d p = w ≡ walk t (Some d) (parent (cut p))

pub walk_start : (t : Tables) (d : ℕ) (p : List ℕ) → Walks t (holder t d (names p)) d p
walk_start t d [] = refl
walk_start t d (b ∷ p) = refl

-- The laws that the loop's invariant brings along: where the first name ends at k, it is &p[..k], and &p[k + 1..] is left.
-- w is what the walk answers, and n the last name.
pub record Descents (t : Tables) (w : Option ℕ) (n : Name) : Type 0 where
  pub next : (d : ℕ) (p : List ℕ) (k c : ℕ) → Walks t w d p → Some k ≡ first is_slash p → Some c ≡ child t.dirs d (take k p) → Walks t w c (take (length p - (k + 1)) (drop (k + 1) p))
  pub stop : (d : ℕ) (p : List ℕ) (k : ℕ) → Walks t w d p → Some k ≡ first is_slash p → None ≡ child t.dirs d (take k p) → w ≡ None
  pub over : (d : ℕ) (p : List ℕ) → Walks t w d p → None ≡ first is_slash p → w ≡ Some d
  pub last-next : (p : List ℕ) (k : ℕ) → n ≡ last (cut p) → Some k ≡ first is_slash p → n ≡ last (cut (take (length p - (k + 1)) (drop (k + 1) p)))
  pub last-over : (p : List ℕ) → n ≡ last (cut p) → None ≡ first is_slash p → p ≡ n
  pub shorter : (p : List ℕ) (k m : ℕ) → length p ≤ m → length (take (length p - (k + 1)) (drop (k + 1) p)) ≤ m

pub descents : (t : Tables) (w : Option ℕ) (n : Name) → Descents t w n
descents t w n =
    record {
      next = λ d p k c s e h. down d p k (Some c) s e h;
      stop = λ d p k s e h. down d p k None s e h ∙ walk_lost t (parent (cut (take (length p - (k + 1)) (drop (k + 1) p))));
      over = λ d p s e. s ∙ ap (λ ns. walk t (Some d) (parent ns)) (cut-whole p e);
      last-next = λ p k s e. s ∙ ap last (cut_at p k e) ∙ last_more (take k p) (drop (k + 1) p) ∙ ap (λ bs. last (cut bs)) (sym (take_rest p (k + 1)));
      last-over = λ p s e. sym (s ∙ ap last (cut-whole p e));
      shorter = λ p k m l. let e = ap length (take_rest p (k + 1)) in omega (arith, length-drop (k + 1) p);
    }
  where
    down : (d : ℕ) (p : List ℕ) (k : ℕ) (o : Option ℕ) → Walks t w d p → Some k ≡ first is_slash p → o ≡ child t.dirs d (take k p) → w ≡ walk t o (parent (cut (take (length p - (k + 1)) (drop (k + 1) p))))
    down d p k o s e h =
        s
        ∙ ap (λ ns. walk t (Some d) (parent ns)) (cut_at p k e)
        ∙ ap (walk t (Some d)) (parent_more (take k p) (drop (k + 1) p))
        ∙ ap₂ (λ c bs. walk t c (parent (cut bs))) (sym h) (sym (take_rest p (k + 1)))
