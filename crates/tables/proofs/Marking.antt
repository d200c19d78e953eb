-- The walk that marks a subtree: child after child, and fewer directories left unmarked at each step down.
use Rattle.std.proofs.Common.{◌≡◌, ℕ, zero, suc, ◌+◌, ◌<◌, ◌≤◌, Bool, true, false, cond, not, ◌&&◌, ◌||◌, eqb, ◌⊎◌, List, length, get_or, set, sym, refl, ap, ◌∙◌, subst, ap₂, inl, inr, arith}
use mathlib.Core.Bool.{or_assoc}
use Rattle.std.proofs.lemmas.List.{ext_get_or, get_or-map, get_or_past, get_or-set_other, get_or-set_same, length-set}
use Rattle.std.proofs.lemmas.Bool.{both_ways, cases_eq, cases_lt, eq-eqb, lt-ltb, ne_eqb, or_from, or_left, or_right, false_from_ne_true}
use Rattle.model.specs.Image.{Image}
use Rattle.model.specs.Sound.{Live, Sound}
use Rattle.model.specs.Tables.{Entry as ModelEntry, no_entry, live, live_dir}
use Rattle.model.proofs.Common.Lists.{length_from, get_or_from}
use Rattle.model.proofs.Common.Tests.{each_from, each_holds}
use Rattle.model.proofs.Tables.Rules.{live_dir-live}
use Rattle.tables.specs.Views.{entry_view, entries_view, view}
use Rattle.tables.specs.declared.consistent.Consistent.{Consistent}
use Rattle.tables.specs.declared.types.Entry.{Entry}
use Rattle.tables.specs.declared.types.Tables.{Tables}
use Rattle.tables.proofs.Shapes.{shaped}
use Rattle.tables.specs.Subtrees.{beneath, is_marked, with_subtree, untouched}
use Rattle.tables.proofs.Subtrees.{Kid, is_kid, below, beneath_out, top_beneath, lower_beneath, not_top, not-before, made_up}
use Rattle.tables.proofs.Told.{told}

-- marks ---------------------------------------------------------------------------------------------------------

or_none : (b : Bool) → (b || false) ≡ b
or_none true = refl
or_none false = refl

marked_also : (ms : List Bool) (x d : ℕ) → x < length ms → is_marked (set ms x true) d ≡ (is_marked ms d || eqb d x)
marked_also ms x d l = go (cases_eq d x)
  where
    go : (d ≡ x) ⊎ (d ≡ x → ⊥) → is_marked (set ms x true) d ≡ (is_marked ms d || eqb d x)
    go (inl e) = ap (is_marked (set ms x true)) e ∙ get_or-set_same ms x true false l ∙ sym (or_right (is_marked ms d) (eqb d x) (eq-eqb d x e))
    go (inr n) = get_or-set_other ms x d true false n ∙ sym (ap (λ b. is_marked ms d || b) (ne_eqb d x n) ∙ or_none (is_marked ms d))

with-length : (ds : List ModelEntry) (top : ℕ) (ms : List Bool) → length (with_subtree ds top ms) ≡ length ms
unfolding with_subtree
with-length ds top ms = length_from 0 (length ms) (λ d. is_marked ms d || beneath ds top d)

pub with-marks : (ds : List ModelEntry) (top : ℕ) (ms : List Bool) → length ms ≡ 32 → (d : ℕ) → is_marked (with_subtree ds top ms) d ≡ (is_marked ms d || beneath ds top d)
unfolding with_subtree
with-marks ds top ms n d = go (cases_lt d (length ms))
  where
    past : (a b c : ℕ) → a ≤ b → a ≡ 32 → b < 32 → ⊥
    past a b c l e m = omega arith

    go : (d < length ms) ⊎ (length ms ≤ d) → is_marked (with_subtree ds top ms) d ≡ (is_marked ms d || beneath ds top d)
    go (inl l) = get_or_from 0 (length ms) (λ d. is_marked ms d || beneath ds top d) d d false l (omega arith)
    go (inr l) =
        get_or_past (with_subtree ds top ms) d false (subst (λ m. m ≤ d) (sym (with-length ds top ms)) l)
        ∙ sym (or_from (is_marked ms d) (beneath ds top d) (get_or_past ms d false l) (false_from_ne_true (beneath ds top d) (λ h. past (length ms) d 0 l n (beneath_out ds top d h).0.0)))

-- no mark in the subtree, place by place
untouched-at : (ds : List ModelEntry) (top : ℕ) (ms : List Bool) → untouched ds top ms ≡ true → (d : ℕ) → beneath ds top d ≡ true → is_marked ms d ≡ false
unfolding untouched
untouched-at ds top ms h d b = go (is_marked ms d) (each_holds 32 0 (λ d. not (is_marked ms d && beneath ds top d)) h d (omega arith) (let l = (beneath_out ds top d b).0.0 in omega arith))
  where
    go : (m : Bool) → not (m && beneath ds top d) ≡ true → m ≡ false
    go true k = absurd (both_ways (not (beneath ds top d)) (ap not b) k)
    go false k = refl

pub at-untouched : (ds : List ModelEntry) (top : ℕ) (ms : List Bool) → ((d : ℕ) → beneath ds top d ≡ true → is_marked ms d ≡ false) → untouched ds top ms ≡ true
unfolding untouched
at-untouched ds top ms h = each_from 32 0 (λ d. not (is_marked ms d && beneath ds top d)) (λ d l m. go d (beneath ds top d) refl (is_marked ms d) refl)
  where
    go : (d : ℕ) (b : Bool) → beneath ds top d ≡ b → (m : Bool) → is_marked ms d ≡ m → not (m && b) ≡ true
    go d true e true f = absurd (both_ways (is_marked ms d) (h d e) f)
    go d true e false f = refl
    go d false e true f = refl
    go d false e false f = refl

-- how many of the first n places are not marked
abbrev gaps : ℕ → List Bool → ℕ
gaps zero ms = 0
gaps (suc n) ms = cond (is_marked ms n) 0 1 + gaps n ms

-- how many directories are not marked
unfoldable pub unmarked : List Bool → ℕ
unmarked ms = gaps 32 ms

-- marks are only added
module _ (old new : List Bool) (adds : (d : ℕ) → is_marked old d ≡ true → is_marked new d ≡ true) where
  at_place : (n : ℕ) → cond (is_marked new n) 0 1 ≤ cond (is_marked old n) 0 1
  at_place n = go (is_marked old n) refl (is_marked new n) refl
    where
      go : (a : Bool) → is_marked old n ≡ a → (b : Bool) → is_marked new n ≡ b → cond b 0 1 ≤ cond a 0 1
      go true e true f = omega arith
      go true e false f = absurd (both_ways (is_marked new n) f (adds n e))
      go false e true f = omega arith
      go false e false f = omega arith

  gaps_fewer : (n : ℕ) → gaps n new ≤ gaps n old
  gaps_fewer zero = omega arith
  gaps_fewer (suc n) = let a = at_place n in let b = gaps_fewer n in omega arith

  gaps_less : (x : ℕ) → is_marked old x ≡ false → is_marked new x ≡ true → (n : ℕ) → x < n → gaps n new < gaps n old
  gaps_less x e f zero l = absurd (omega arith)
  gaps_less x e f (suc n) l = go (cases_eq x n) (gaps_less x e f n)
    where
      here : (a b c d : ℕ) → a ≡ 0 → b ≡ 1 → c ≤ d → a + c < b + d
      here a b c d p q r = omega arith

      go : (x ≡ n) ⊎ (x ≡ n → ⊥) → (x < n → gaps n new < gaps n old) → gaps (suc n) new < gaps (suc n) old
      go (inl q) ih =
          here (cond (is_marked new n) 0 1) (cond (is_marked old n) 0 1) (gaps n new) (gaps n old)
          (ap (λ y. cond (is_marked new y) 0 1) (sym q) ∙ ap (λ b. cond b 0 1) f) (ap (λ y. cond (is_marked old y) 0 1) (sym q) ∙ ap (λ b. cond b 0 1) e) (gaps_fewer n)
      go (inr q) ih = let a = at_place n in let b = ih (omega arith) in omega arith

  unmarked_fewer : unmarked new ≤ unmarked old
  unfolding unmarked
  unmarked_fewer = gaps_fewer 32

  unmarked_less : (x : ℕ) → x < 32 → is_marked old x ≡ false → is_marked new x ≡ true → unmarked new < unmarked old
  unfolding unmarked
  unmarked_less x l e f = gaps_less x e f 32 l

-- the walk ------------------------------------------------------------------------------------------------------

-- what is marked once the children below n are done
unfoldable pub so_far : List ModelEntry → ℕ → List Bool → ℕ → List Bool
so_far ds dir ms zero = ms
so_far ds dir ms (suc n) = cond (is_kid ds dir n) (with_subtree ds n (so_far ds dir ms n)) (so_far ds dir ms n)

-- The laws that the loop's invariant brings along. The loop starts from the marks `ms`.
pub record Walk (t : Tables) (dir : ℕ) (ms : List Bool) : Type 0 where
  pub step : (i : ℕ) (e : Entry) → i < 32 → so_far (entries_view t.dirs) dir ms (i + 1) ≡ cond (live (entry_view (get_or t.dirs i e)) && eqb (get_or t.dirs i e).parent dir) (with_subtree (entries_view t.dirs) i (so_far (entries_view t.dirs) dir ms i)) (so_far (entries_view t.dirs) dir ms i)
  pub lives : (i : ℕ) (e : Entry) → i < 32 → live_dir (entries_view t.dirs) i ≡ live (entry_view (get_or t.dirs i e))
  pub down : (i : ℕ) (e : Entry) → i < 32 → live (entry_view (get_or t.dirs i e)) ≡ true → (get_or t.dirs i e).parent ≡ dir → untouched (entries_view t.dirs) i (so_far (entries_view t.dirs) dir ms i) ≡ true
  pub fewer : (i : ℕ) → unmarked (so_far (entries_view t.dirs) dir ms i) ≤ unmarked ms
  pub first : (old : List Bool) → ms ≡ set old dir true → length old ≡ 32 → untouched (entries_view t.dirs) dir old ≡ true → unmarked ms < unmarked old
  pub over : (old : List Bool) → ms ≡ set old dir true → length old ≡ 32 → with_subtree (entries_view t.dirs) dir old ≡ so_far (entries_view t.dirs) dir ms 32

so_far-length : (ds : List ModelEntry) (dir : ℕ) (ms : List Bool) (n : ℕ) → length (so_far ds dir ms n) ≡ length ms
unfolding so_far
so_far-length ds dir ms zero = refl
so_far-length ds dir ms (suc n) = go (is_kid ds dir n) (so_far-length ds dir ms n)
  where
    go : (b : Bool) → length (so_far ds dir ms n) ≡ length ms → length (cond b (with_subtree ds n (so_far ds dir ms n)) (so_far ds dir ms n)) ≡ length ms
    go true h = with-length ds n (so_far ds dir ms n) ∙ h
    go false h = h

so_far-marks : (ds : List ModelEntry) (dir : ℕ) (ms : List Bool) → length ms ≡ 32 → (n d : ℕ) → is_marked (so_far ds dir ms n) d ≡ (is_marked ms d || below ds dir n d)
unfolding so_far
so_far-marks ds dir ms l zero d = sym (or_none (is_marked ms d))
so_far-marks ds dir ms l (suc n) d = go (is_kid ds dir n) (so_far-marks ds dir ms l n d)
  where
    go : (b : Bool) → is_marked (so_far ds dir ms n) d ≡ (is_marked ms d || below ds dir n d) → is_marked (cond b (with_subtree ds n (so_far ds dir ms n)) (so_far ds dir ms n)) d ≡ (is_marked ms d || (below ds dir n d || (b && beneath ds n d)))
    go true h = with-marks ds n (so_far ds dir ms n) (so_far-length ds dir ms n ∙ l) d ∙ ap (λ b. b || beneath ds n d) h ∙ or_assoc (is_marked ms d) (below ds dir n d) (beneath ds n d)
    go false h = h ∙ ap (λ b. is_marked ms d || b) (sym (or_none (below ds dir n d)))

one_more : (n : ℕ) → suc n ≡ n + 1
one_more n = omega arith

module _ (t : Tables) (dir : ℕ) (i : Image) (s : Sound i (view t)) (lives : Live (entries_view t.dirs) dir) where
  abbrev ds : List ModelEntry
  ds = entries_view t.dirs

  at : (k : ℕ) (e : Entry) → k < 32 → get_or (entries_view t.dirs) k no_entry ≡ entry_view (get_or t.dirs k e)
  at k e l = let f = t.directed in get_or-map entry_view t.dirs k e no_entry (omega arith)

  here : (k : ℕ) (e : Entry) → k < 32 → live_dir ds k ≡ live (entry_view (get_or t.dirs k e))
  here k e l = ap (λ b. b && live (get_or ds k no_entry)) (lt-ltb k 32 l) ∙ ap live (at k e l)

  kid : (k : ℕ) (e : Entry) → k < 32 → live (entry_view (get_or t.dirs k e)) ≡ true → (get_or t.dirs k e).parent ≡ dir → Kid ds dir k
  kid k e l v p = ((l, ap live (at k e l) ∙ v), ap (λ x. x.parent) (at k e l) ∙ p)

  step : (ms : List Bool) (k : ℕ) (e : Entry) → k < 32 → so_far ds dir ms (k + 1) ≡ cond (live (entry_view (get_or t.dirs k e)) && eqb (get_or t.dirs k e).parent dir) (with_subtree ds k (so_far ds dir ms k)) (so_far ds dir ms k)
  unfolding so_far
  step ms k e l = ap (so_far ds dir ms) (sym (one_more k)) ∙ ap (λ b. cond b (with_subtree ds k (so_far ds dir ms k)) (so_far ds dir ms k)) (ap₂ (λ a x. a && eqb x dir) (here k e l) (ap (λ x. x.parent) (at k e l)))

  set-marks : (old : List Bool) → length old ≡ 32 → (d : ℕ) → is_marked (set old dir true) d ≡ (is_marked old d || eqb d dir)
  set-marks old n d = marked_also old dir d (subst (λ m. dir < m) (sym n) lives.0)

  first : (old : List Bool) → length old ≡ 32 → untouched ds dir old ≡ true → unmarked (set old dir true) < unmarked old
  first old l u =
      unmarked_less old (set old dir true) (λ d h. set-marks old l d ∙ or_left (is_marked old d) (eqb d dir) h) dir lives.0
      (untouched-at ds dir old u dir (top_beneath i (view t) s dir lives))
      (set-marks old l dir ∙ or_right (is_marked old dir) (eqb dir dir) (eq-eqb dir dir refl))

  over : (old : List Bool) → length old ≡ 32 → (n : ℕ) → 32 ≤ n → with_subtree ds dir old ≡ so_far ds dir (set old dir true) n
  over old l n m =
      let ms = set old dir true in
      let long = length-set old dir true in
      ext_get_or false (with_subtree ds dir old) (so_far ds dir ms n) (with-length ds dir old ∙ sym (so_far-length ds dir ms n ∙ long)) (λ d b.
      with-marks ds dir old l d
      ∙ ap (λ b. is_marked old d || b) (sym (made_up i (view t) s dir lives n m d))
      ∙ sym (or_assoc (is_marked old d) (eqb d dir) (below ds dir n d))
      ∙ ap (λ b. b || below ds dir n d) (sym (set-marks old l d))
      ∙ sym (so_far-marks ds dir ms (long ∙ l) n d))

  module _ (old : List Bool) (long : length old ≡ 32) (free : untouched ds dir old ≡ true) where
    abbrev ms : List Bool
    ms = set old dir true

    ms_long : length ms ≡ 32
    ms_long = length-set old dir true ∙ long

    down : (k : ℕ) → Kid ds dir k → untouched ds k (so_far ds dir ms k) ≡ true
    down k c = at-untouched ds k (so_far ds dir ms k) (λ d h.
        so_far-marks ds dir ms ms_long k d
        ∙ or_from (is_marked ms d) (below ds dir k d)
        (set-marks old long d ∙ or_from (is_marked old d) (eqb d dir) (untouched-at ds dir old free d (lower_beneath i (view t) s dir lives k d c h)) (ne_eqb d dir (not_top i (view t) s dir lives k d c h)))
        (not-before i (view t) s dir lives k d c h))

    fewer : (k : ℕ) → unmarked (so_far ds dir ms k) ≤ unmarked ms
    fewer k = unmarked_fewer ms (so_far ds dir ms k) (λ d h. so_far-marks ds dir ms ms_long k d ∙ or_left (is_marked ms d) (below ds dir k d) h)

    pub walks : Walk t dir ms
    walks = record {
      step = step ms;
      lives = here;
      down = λ k e l v p. down k (kid k e l v p);
      fewer = fewer;
      first = λ o e n u. subst (λ x. unmarked x < unmarked o) (sym e) (first o n u);
      over = λ o e n. over o n 32 (omega arith) ∙ ap (λ x. so_far ds dir x 32) (sym e);
    }

pub walk : (k : Consistent) (dir : ℕ) (old : List Bool) → live_dir (entries_view k.tables.dirs) dir ≡ true → untouched (entries_view k.tables.dirs) dir old ≡ true → length old ≡ 32 → (set old dir true ≡ so_far (entries_view k.tables.dirs) dir (set old dir true) 0) × Walk k.tables dir (set old dir true)
unfolding so_far
walk k dir old lives u l =
    let t = k.tables in
    let q = told (view t) (shaped t) k.sound in
    (refl, walks t dir q.0 q.1 (live_dir-live (entries_view t.dirs) dir lives) old l u)
