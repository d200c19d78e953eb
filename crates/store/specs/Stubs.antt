-- The store of the tests: one live sector, and the others dead.
use Rattle.std.specs.Prelude.{◌≡◌, ℕ, ◌<◌, ◌≤◌, Bool, true, false, cond, List, length, Ok, Err, Result, ◌==◌, nat_lt, refl}
use Rattle.std.proofs.Common.{sym, ap, ◌∙◌}
use Rattle.std.proofs.lemmas.Bool.{ltb-true, ltb-false, eqb-true, eq-eqb, ne_eqb}
use Rattle.model.specs.declared.types.Fault.{Fault}
use Rattle.model.specs.Sizes.{sector_size, most_sectors}
use Rattle.model.specs.Image.{Image, Sector, bytes, dead, from_to, whole, whole_sector, past_end_at, dead_at, seen, done_or_fault, access, filled, put}
use Rattle.store.specs.Tabled.{look_table, look_past_table, whole_table, put_table, access_at, filled_at}

-- the count of sectors, the live one with its bytes, and the depth of the others
module _ (n v : ℕ) (b : List ℕ) (d : ℕ) where
  abbrev at : ℕ → Sector
  at k = cond (k == v) (bytes b) (dead k d)

  abbrev pub image : Image
  image = from_to 0 n at

  pub stub_whole : n ≤ most_sectors → length b ≡ sector_size → whole image ≡ true
  stub_whole l e = whole_table n at l (λ s m. go (s == v) s)
    where
      go : (x : Bool) (s : ℕ) → whole_sector (cond x (bytes b) (dead s d)) ≡ true
      go true s = eq-eqb (length b) sector_size e
      go false s = refl

  module _ (s : ℕ) where
    abbrev checked : Bool → Bool → Result (Unit {0}) Fault
    checked x y = cond x (cond y (Ok tt) (Err (dead_at s d))) (Err (past_end_at s))

    is_access : checked (nat_lt s n) (s == v) ≡ access image s
    is_access = go (nat_lt s n) refl
      where
        same : (y : Bool) → cond y (Ok tt) (Err (dead_at s d)) ≡ done_or_fault (seen (cond y (bytes b) (dead s d)))
        same true = refl
        same false = refl

        go : (x : Bool) → nat_lt s n ≡ x → checked x (s == v) ≡ access image s
        go true e = same (s == v) ∙ sym (access_at image s (seen (at s)) (look_table n at s (ltb-true s n e)))
        go false e = sym (access_at image s (Err (past_end_at s)) (look_past_table n at s (ltb-false s n e)))

    pub stub_access : {r : Result (Unit {0}) Fault} → r ≡ checked (nat_lt s n) (s == v) → r ≡ access image s
    stub_access e = e ∙ is_access

    module _ (e : access image s ≡ Ok tt) where
      passed : (s < n) × (s ≡ v)
      passed = go (nat_lt s n) refl (s == v) refl (sym e ∙ sym is_access)
        where
          go : (x : Bool) → nat_lt s n ≡ x → (y : Bool) → (s == v) ≡ y → Ok tt ≡ checked x y → (s < n) × (s ≡ v)
          go true p true q r = (ltb-true s n p, eqb-true s v q)
          go true p false q r = absurd cc
          go false p y q r = absurd cc

      live : at s ≡ bytes b
      live = ap (λ x. cond x (bytes b) (dead s d)) (eq-eqb s v passed.1)

      pub stub_filled : (old : List ℕ) → b ≡ filled image s old
      stub_filled old = sym (filled_at image s old (Ok b) (look_table n at s passed.0 ∙ ap seen live))

      pub stub_put : (new : List ℕ) → from_to 0 n (λ k. cond (k == v) (bytes new) (dead k d)) ≡ put image s new
      stub_put new =
          sym (put_table n at (λ k. cond (k == v) (bytes new) (dead k d)) s b new passed.0 live
          (ap (λ x. cond x (bytes new) (dead s d)) (eq-eqb s v passed.1))
          (λ t l ne. other t (ne_eqb t v (λ q. ne (q ∙ sym passed.1)))))
        where
          other : (t : ℕ) → (t == v) ≡ false → cond (t == v) (bytes new) (dead t d) ≡ cond (t == v) (bytes b) (dead t d)
          other t q = ap (λ x. cond x (bytes new) (dead t d)) q ∙ sym (ap (λ x. cond x (bytes b) (dead t d)) q)
