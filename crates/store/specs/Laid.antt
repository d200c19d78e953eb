-- A table that is laid: the image where the buffers fit, and no sector where they do not.
use Rattle.std.specs.Prelude.{◌≡◌, ℕ, ◌<◌, ◌≤◌, Bool, true, false, ◌⊎◌, List, length, Ok, Err, Result, ◌≢◌, refl}
use Rattle.std.specs.Result.{MatchResult}
use Rattle.std.proofs.Common.{sym, subst, ◌∙◌, inl, inr, arith}
use Rattle.std.proofs.lemmas.Bool.{cases_lt}
use Rattle.model.specs.declared.types.Fault.{Fault}
use Rattle.model.specs.declared.types.Refusal.{Refusal}
use Rattle.model.specs.Sizes.{most_sectors}
use Rattle.model.specs.Image.{Image, Sector, bytes, from_to, whole_sector, whole, past_end_at, seen, look, access, put}
use Rattle.store.specs.Stores.{fit_answer, laid}
use Rattle.store.specs.Tabled.{length_table, whole_table, look_table, look_outside, put_table, access_at}

-- what is counted where the question whether it fits was answered by yes, and 0 else, is the size
pub counted : (b : Bool) (n m : ℕ) (f : ℕ → Sector) (r : Result (Unit {0}) Refusal) {P : Unit {0} → Type 0} → r ≡ fit_answer b → ((u : Unit {0}) → P u → m ≡ n) → MatchResult r P (λ _. m ≡ 0) → m ≡ length (laid b (from_to 0 n f))
counted b n m f r {P} e h p = go b (subst (λ x. MatchResult x P (λ _. m ≡ 0)) e p)
  where
    go : (b : Bool) → MatchResult (fit_answer b) P (λ _. m ≡ 0) → m ≡ length (laid b (from_to 0 n f))
    go true q = h tt q ∙ sym (length_table n f)
    go false q = q

pub whole_laid : (b : Bool) (n : ℕ) (f : ℕ → Sector) → (b ≡ true → n ≤ most_sectors) → (b ≡ true → (s : ℕ) → s < n → whole_sector (f s) ≡ true) → whole (laid b (from_to 0 n f)) ≡ true
whole_laid true n f l h = whole_table n f (l refl) (h refl)
whole_laid false n f l h = refl

-- what has a sector fits, and its sectors are the table's
pub inside_laid : (b : Bool) (n : ℕ) (f : ℕ → Sector) (s : ℕ) → s < length (laid b (from_to 0 n f)) → (b ≡ true) × (s < n)
inside_laid true n f s l = (refl, subst (λ m. s < m) (length_table n f) l)
inside_laid false n f s l = absurd (omega arith)

pub look_laid : (b : Bool) (n : ℕ) (f : ℕ → Sector) (s : ℕ) → s < length (laid b (from_to 0 n f)) → look (laid b (from_to 0 n f)) s ≡ seen (f s)
look_laid true n f s l = look_table n f s (inside_laid true n f s l).1
look_laid false n f s l = absurd (omega arith)

pub put_laid : (b : Bool) (n : ℕ) (f g : ℕ → Sector) (s : ℕ) (old new : List ℕ) → s < length (laid b (from_to 0 n f)) → f s ≡ bytes old → g s ≡ bytes new → ((t : ℕ) → t < n → (t ≢ s) → g t ≡ f t) → put (laid b (from_to 0 n f)) s new ≡ laid b (from_to 0 n g)
put_laid true n f g s old new l p q r = put_table n f g s old new (inside_laid true n f s l).1 p q r
put_laid false n f g s old new l p q r = absurd (omega arith)

-- no access is both refused and accepted, and an accepted one is to a sector of the image
pub never_both : (f : Fault) → ◌≡◌ {A = Result (Unit {0}) Fault} (Err f) (Ok tt) → ⊥
never_both f e = cc

pub inside_accepted : (i : Image) (s : ℕ) → access i s ≡ Ok tt → s < length i
inside_accepted i s h = go (cases_lt s (length i))
  where
    go : (s < length i) ⊎ (length i ≤ s) → s < length i
    go (inl l) = l
    go (inr l) = absurd (never_both (past_end_at s) (sym (access_at i s (Err (past_end_at s)) (look_outside i s l)) ∙ h))
