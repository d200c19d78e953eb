-- A way up to the root is never longer than 32 steps.
use Rattle.std.proofs.Common.{◌≡◌, ℕ, zero, suc, ◌≤◌, true, false, cond, not, eqb, ◌⊎◌, List, [], ◌∷◌, length, sym, refl, ap, ◌∙◌, subst, inl, inr, arith}
use Rattle.std.proofs.lemmas.Bool.{and_from, both_ways, eq-eqb, eqb-true, ne_eqb, not_from_false, or_cases, false_from_ne_true}
use Rattle.model.specs.Tables.{root, Entry, member, distinct, climbs}
use Rattle.model.specs.Sound.{Live}
use Rattle.model.proofs.Common.Counts.{few-distinct}
use Rattle.model.proofs.Tables.Climbs.{up, Step, climbs_cases, climbs-root, climbs_more, climbs_zero, climbs_mono}

-- the directories on the way
abbrev chain : List Entry → ℕ → ℕ → List ℕ
chain ds zero d = []
chain ds (suc n) d = cond (eqb d root) [] (d ∷ chain ds n (up ds d))

chain_root : (ds : List Entry) (n d : ℕ) → d ≡ root → chain ds n d ≡ []
chain_root ds zero d e = refl
chain_root ds (suc n) d e = ap (λ b. cond b [] (d ∷ chain ds n (up ds d))) (eq-eqb d root e)

chain_more : (ds : List Entry) (n d : ℕ) → (d ≡ root → ⊥) → chain ds (suc n) d ≡ d ∷ chain ds n (up ds d)
chain_more ds n d e = ap (λ b. cond b [] (d ∷ chain ds n (up ds d))) (ne_eqb d root e)

chain_same : (ds : List Entry) (n m d : ℕ) → climbs ds n d ≡ true → climbs ds m d ≡ true → chain ds n d ≡ chain ds m d
chain_same ds zero m d p q = sym (chain_root ds m d (climbs_zero ds d p))
chain_same ds (suc n) zero d p q = chain_root ds (suc n) d (climbs_zero ds d q)
chain_same ds (suc n) (suc m) d p q = go (λ x a b. chain_same ds n m x a b) (climbs_cases ds n d p) (climbs_cases ds m d q)
  where
    go : ((x : ℕ) → climbs ds n x ≡ true → climbs ds m x ≡ true → chain ds n x ≡ chain ds m x) → Step ds n d → Step ds m d → chain ds (suc n) d ≡ chain ds (suc m) d
    go ih (inl e) s = chain_root ds (suc n) d e ∙ sym (chain_root ds (suc m) d e)
    go ih (inr r) (inl e) = absurd (r.0 e)
    go ih (inr r) (inr s) = chain_more ds n d r.0 ∙ (ap (λ x. d ∷ x) (ih (up ds d) r.2 s.2) ∙ sym (chain_more ds m d r.0))

abbrev Lower : List Entry → ℕ → ℕ → Type 0
Lower ds s top = (m : ℕ) × (climbs ds m s ≡ true) × (length (chain ds m s) ≤ top) × Live ds s

chain_member : (ds : List Entry) (n d s : ℕ) → climbs ds n d ≡ true → member s (chain ds n d) ≡ true → Lower ds s (length (chain ds n d))
chain_member ds zero d s h k = absurd (both_ways false refl k)
chain_member ds (suc n) d s h k = go (λ x a b. chain_member ds n x s a b) (climbs_cases ds n d h)
  where
    go : ((x : ℕ) → climbs ds n x ≡ true → member s (chain ds n x) ≡ true → Lower ds s (length (chain ds n x))) → Step ds n d → Lower ds s (length (chain ds (suc n) d))
    go ih (inl e) = absurd (both_ways false refl (subst (λ xs. member s xs ≡ true) (chain_root ds (suc n) d e) k))
    go ih (inr r) = pick (or_cases (eqb s d) (member s (chain ds n (up ds d))) (subst (λ xs. member s xs ≡ true) (chain_more ds n d r.0) k))
      where
        long : length (chain ds (suc n) d) ≡ suc (length (chain ds n (up ds d)))
        long = ap length (chain_more ds n d r.0)

        pick : (eqb s d ≡ true) ⊎ (member s (chain ds n (up ds d)) ≡ true) → Lower ds s (length (chain ds (suc n) d))
        pick (inl e) = subst (λ x. Lower ds x (length (chain ds (suc n) d))) (sym (eqb-true s d e)) (suc n, h, the_same, r.1)
          where
            the_same : length (chain ds (suc n) d) ≤ length (chain ds (suc n) d)
            the_same = omega arith
        pick (inr m) = let q = ih (up ds d) r.2 m in (q.0, q.1, under (length (chain ds q.0 s)) (length (chain ds n (up ds d))) (length (chain ds (suc n) d)) q.2 long, q.3)
          where
            under : (a b c : ℕ) → a ≤ b → c ≡ suc b → a ≤ c
            under a b c p e = omega arith

chain_distinct : (ds : List Entry) (n d : ℕ) → climbs ds n d ≡ true → distinct (chain ds n d) ≡ true
chain_distinct ds zero d h = refl
chain_distinct ds (suc n) d h = go (λ x a. chain_distinct ds n x a) (climbs_cases ds n d h)
  where
    go : ((x : ℕ) → climbs ds n x ≡ true → distinct (chain ds n x) ≡ true) → Step ds n d → distinct (chain ds (suc n) d) ≡ true
    go ih (inl e) = subst (λ xs. distinct xs ≡ true) (sym (chain_root ds (suc n) d e)) refl
    go ih (inr r) = subst (λ xs. distinct xs ≡ true) (sym (chain_more ds n d r.0))
        (and_from (not (member d (chain ds n (up ds d)))) (distinct (chain ds n (up ds d)))
        (not_from_false (member d (chain ds n (up ds d))) (false_from_ne_true (member d (chain ds n (up ds d))) twice))
        (ih (up ds d) r.2))
      where
        twice : member d (chain ds n (up ds d)) ≡ true → ⊥
        twice m =
            let q = chain_member ds n (up ds d) d r.2 m in
            let e = chain_same ds q.0 (suc n) d q.1 h in
            let f : length (chain ds q.0 d) ≡ suc (length (chain ds n (up ds d))) = ap length (e ∙ chain_more ds n d r.0) in
            off (length (chain ds q.0 d)) (length (chain ds n (up ds d))) f q.2
          where
            off : (a b : ℕ) → a ≡ suc b → a ≤ b → ⊥
            off a b e l = omega arith

climbs_exact : (ds : List Entry) (n d : ℕ) → climbs ds n d ≡ true → climbs ds (length (chain ds n d)) d ≡ true
climbs_exact ds zero d h = h
climbs_exact ds (suc n) d h = go (λ x a. climbs_exact ds n x a) (climbs_cases ds n d h)
  where
    go : ((x : ℕ) → climbs ds n x ≡ true → climbs ds (length (chain ds n x)) x ≡ true) → Step ds n d → climbs ds (length (chain ds (suc n) d)) d ≡ true
    go ih (inl e) = climbs-root ds (length (chain ds (suc n) d)) d e
    go ih (inr r) = subst (λ xs. climbs ds (length xs) d ≡ true) (sym (chain_more ds n d r.0)) (climbs_more ds (length (chain ds n (up ds d))) d r.1 (ih (up ds d) r.2))

pub climbs-within : (ds : List Entry) (n d m : ℕ) → 32 ≤ m → climbs ds n d ≡ true → climbs ds m d ≡ true
climbs-within ds n d m l h =
    let b : length (chain ds n d) ≤ 32 = few-distinct 32 (chain ds n d) (chain_distinct ds n d h) (λ s k. (chain_member ds n d s h k).3.0) in
    climbs_mono ds (length (chain ds n d)) m d (through (length (chain ds n d)) m b l) (climbs_exact ds n d h)
  where
    through : (a m : ℕ) → a ≤ 32 → 32 ≤ m → a ≤ m
    through a m p q = omega arith
