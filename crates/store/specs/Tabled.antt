-- Images that are a table of a function, from_to 0 n f: what stands at a sector, and what a write there leaves.
use Rattle.std.specs.Prelude.{◌≡◌, ℕ, zero, suc, ◌+◌, ◌<◌, ◌≤◌, Bool, true, cond, leb, List, [], ◌∷◌, length, Ok, Err, Result, ◌≢◌, nat_le, nat_lt, slice_index_or, slice_set, refl}
use Rattle.std.proofs.Common.{sym, ap, ap₂, ◌∙◌, arith}
use Rattle.std.proofs.lemmas.List.{length-set}
use Rattle.std.proofs.lemmas.Bool.{lt-ltb, le-ltb, le-leb, leb-true, and_from, and_parts}
use Rattle.model.specs.declared.types.Fault.{Fault}
use Rattle.model.specs.Sizes.{most_sectors}
use Rattle.model.specs.Image.{Image, Sector, bytes, dead, all, from_to, whole_sector, whole, past_end_at, seen, look, done_or_fault, access, bytes_or, filled, stored, put}

-- the list itself ---------------------------------------------------------------------------------------

from_length : {A : Type 0} (a n : ℕ) (f : ℕ → A) → length (from_to a n f) ≡ n
from_length a zero f = refl
from_length a (suc n) f = ap suc (from_length (suc a) n f)

from_get_or : {A : Type 0} (a n : ℕ) (f : ℕ → A) (k j : ℕ) (d : A) → k < n → j ≡ a + k → slice_index_or (from_to a n f) k d ≡ f j
from_get_or a zero f k j d l e = absurd (omega arith)
from_get_or a (suc n) f zero j d l e = let q : a ≡ j = omega arith in ap f q
from_get_or a (suc n) f (suc k) j d l e = from_get_or (suc a) n f k j d (omega arith) (omega arith)

from_same : {A : Type 0} (a n : ℕ) (f g : ℕ → A) → ((s : ℕ) → a ≤ s → s < a + n → f s ≡ g s) → from_to a n f ≡ from_to a n g
from_same a zero f g h = refl
from_same a (suc n) f g h = ap₂ ◌∷◌ (h a (omega arith) (omega arith)) (from_same (suc a) n f g (λ s l m. h s (omega arith) (omega arith)))

from_set : {A : Type 0} (a n : ℕ) (f g : ℕ → A) (k j : ℕ) (x : A) → j ≡ a + k → k < n → g j ≡ x → ((t : ℕ) → a ≤ t → t < a + n → (t ≢ j) → g t ≡ f t) → slice_set (from_to a n f) k x ≡ from_to a n g
from_set a zero f g k j x e l p q = absurd (omega arith)
from_set a (suc n) f g zero j x e l p q =
    let r : a ≡ j = omega arith in
    ap₂ ◌∷◌ (sym (ap g r ∙ p)) (from_same (suc a) n f g (λ t m o. sym (q t (omega arith) (omega arith) (λ z. omega arith))))
from_set a (suc n) f g (suc k) j x e l p q =
    ap₂ ◌∷◌ (sym (q a (omega arith) (omega arith) (λ z. omega arith))) (from_set (suc a) n f g k j x (omega arith) (omega arith) p (λ t m o z. q t (omega arith) (omega arith) z))

from_all : {A : Type 0} (a n : ℕ) (f : ℕ → A) (t : A → Bool) → ((s : ℕ) → a ≤ s → s < a + n → t (f s) ≡ true) → all t (from_to a n f) ≡ true
from_all a zero f t h = refl
from_all a (suc n) f t h = and_from (t (f a)) (all t (from_to (suc a) n f)) (h a (omega arith) (omega arith)) (from_all (suc a) n f t (λ s l m. h s (omega arith) (omega arith)))

pub length_table : {A : Type 0} (n : ℕ) (f : ℕ → A) → length (from_to 0 n f) ≡ n
length_table n f = from_length 0 n f

pub get_or_table : {A : Type 0} (n : ℕ) (f : ℕ → A) (s : ℕ) (d : A) → s < n → slice_index_or (from_to 0 n f) s d ≡ f s
get_or_table n f s d l = from_get_or 0 n f s s d l (omega arith)

-- g is x at s, and f elsewhere
pub set_table : {A : Type 0} (n : ℕ) (f g : ℕ → A) (s : ℕ) (x : A) → s < n → g s ≡ x → ((t : ℕ) → t < n → (t ≢ s) → g t ≡ f t) → slice_set (from_to 0 n f) s x ≡ from_to 0 n g
set_table n f g s x l p q = from_set 0 n f g s s x (omega arith) l p (λ t m o z. q t (omega arith) z)

pub all_table : {A : Type 0} (n : ℕ) (f : ℕ → A) (t : A → Bool) → ((s : ℕ) → s < n → t (f s) ≡ true) → all t (from_to 0 n f) ≡ true
all_table n f t h = from_all 0 n f t (λ s l m. h s (omega arith))

-- any image ----------------------------------------------------------------------------------------------

pub look_inside : (i : Image) (s : ℕ) → s < length i → look i s ≡ seen (slice_index_or i s (dead 0 0))
look_inside i s l = ap (λ b. cond b (seen (slice_index_or i s (dead 0 0))) (Err (past_end_at s))) (lt-ltb s (length i) l)

pub look_outside : (i : Image) (s : ℕ) → length i ≤ s → look i s ≡ Err (past_end_at s)
look_outside i s l = ap (λ b. cond b (seen (slice_index_or i s (dead 0 0))) (Err (past_end_at s))) (le-ltb s (length i) l)

-- what a read and a write leave, given what stands at s
pub access_at : (i : Image) (s : ℕ) (r : Result (List ℕ) Fault) → look i s ≡ r → access i s ≡ done_or_fault r
access_at i s r e = ap done_or_fault e

pub filled_at : (i : Image) (s : ℕ) (buffer : List ℕ) (r : Result (List ℕ) Fault) → look i s ≡ r → filled i s buffer ≡ bytes_or r buffer
filled_at i s buffer r e = ap (λ x. bytes_or x buffer) e

pub put_at : (i : Image) (s : ℕ) (new : List ℕ) (r : Result (List ℕ) Fault) → look i s ≡ r → put i s new ≡ stored r i s new
put_at i s new r e = ap (λ x. stored x i s new) e

pub length_put : (i : Image) (s : ℕ) (new : List ℕ) → length (put i s new) ≡ length i
length_put i s new = go (look i s)
  where
    go : (r : Result (List ℕ) Fault) → length (stored r i s new) ≡ length i
    go (Ok old) = length-set i s (bytes new)
    go (Err f) = refl

-- a sector of a whole image is whole
pub get_or_whole : (i : Image) (s : ℕ) → whole i ≡ true → whole_sector (slice_index_or i s (dead 0 0)) ≡ true
get_or_whole i s w = go i s (and_parts (nat_le (length i) most_sectors) (all whole_sector i) w).1
  where
    go : (i : Image) (s : ℕ) → all whole_sector i ≡ true → whole_sector (slice_index_or i s (dead 0 0)) ≡ true
    go [] s h = refl
    go (x ∷ i) zero h = (and_parts (whole_sector x) (all whole_sector i) h).0
    go (x ∷ i) (suc s) h = go i s (and_parts (whole_sector x) (all whole_sector i) h).1

pub length_whole : (i : Image) → whole i ≡ true → length i ≤ most_sectors
length_whole i w = leb-true (length i) most_sectors (and_parts (nat_le (length i) most_sectors) (all whole_sector i) w).0

-- the image of a table -------------------------------------------------------------------------------------

pub whole_table : (n : ℕ) (f : ℕ → Sector) → n ≤ most_sectors → ((s : ℕ) → s < n → whole_sector (f s) ≡ true) → whole (from_to 0 n f) ≡ true
whole_table n f l h =
    and_from (nat_le (length (from_to 0 n f)) most_sectors) (all whole_sector (from_to 0 n f))
    (ap (λ m. leb m most_sectors) (length_table n f) ∙ le-leb n most_sectors l)
    (all_table n f whole_sector h)

pub look_table : (n : ℕ) (f : ℕ → Sector) (s : ℕ) → s < n → look (from_to 0 n f) s ≡ seen (f s)
look_table n f s l =
    ap (λ m. cond (nat_lt s m) (seen (slice_index_or (from_to 0 n f) s (dead 0 0))) (Err (past_end_at s))) (length_table n f)
    ∙ (ap (λ b. cond b (seen (slice_index_or (from_to 0 n f) s (dead 0 0))) (Err (past_end_at s))) (lt-ltb s n l)
    ∙ ap seen (get_or_table n f s (dead 0 0) l))

pub look_past_table : (n : ℕ) (f : ℕ → Sector) (s : ℕ) → n ≤ s → look (from_to 0 n f) s ≡ Err (past_end_at s)
look_past_table n f s l =
    ap (λ m. cond (nat_lt s m) (seen (slice_index_or (from_to 0 n f) s (dead 0 0))) (Err (past_end_at s))) (length_table n f)
    ∙ ap (λ b. cond b (seen (slice_index_or (from_to 0 n f) s (dead 0 0))) (Err (past_end_at s))) (le-ltb s n l)

-- a write at a live sector: the table of a function that has the new bytes there, and is f elsewhere
pub put_table : (n : ℕ) (f g : ℕ → Sector) (s : ℕ) (old new : List ℕ) → s < n → f s ≡ bytes old → g s ≡ bytes new → ((t : ℕ) → t < n → (t ≢ s) → g t ≡ f t) → put (from_to 0 n f) s new ≡ from_to 0 n g
put_table n f g s old new l p q r =
    put_at (from_to 0 n f) s new (Ok old) (look_table n f s l ∙ ap seen p) ∙ set_table n f g s (bytes new) l q r

-- a refused write leaves the image
pub put_refused : (i : Image) (s : ℕ) (new : List ℕ) (f : Fault) → look i s ≡ Err f → put i s new ≡ i
put_refused i s new f e = put_at i s new (Err f) e
