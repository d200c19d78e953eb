-- The least name after given bytes, and a list taken in order by it.
use Rattle.std.proofs.Common.{◌≡◌, ℕ, zero, suc, ◌+◌, ◌<◌, ◌≤◌, Bool, true, false, cond, ◌⊎◌, ◌↔◌, List, [], ◌∷◌, length, Some, None, Option, sym, refl, ap, ◌∙◌, subst, inl, inr, arith}
use Rattle.std.proofs.lemmas.Bool.{both_ways, false_from_ne_true}
use Rattle.model.specs.Names.{Name, before}
use Rattle.model.specs.Answers.{Listed, lesser, least_after}
use Rattle.model.specs.Order.{In, Apart, Least, and_on, in_order}
use Rattle.model.proofs.Common.Lists.{Pairs}
use Rattle.model.proofs.Naming.Orders.{before_irrefl, before_trans, before_tri}

abbrev NoneAfter : Name → List Listed → Type 0
NoneAfter a xs = (x : Listed) → In x xs → before a x.name ≡ false

-- what an answer says
abbrev pub Said : Name → List Listed → Option Listed → Type 0
Said a xs None = NoneAfter a xs
Said a xs (Some x) = Least a xs x

said_cons : (a : Name) (x : Listed) (xs : List Listed) (b : Bool) → before a x.name ≡ b → (o : Option Listed) → Said a xs o → Said a (x ∷ xs) (cond b (Some (lesser x o)) o)
said_cons a x xs true e None h = record { one_of = inl refl; after = e; least = below }
  where
    below : (y : Listed) → In y (x ∷ xs) → before a y.name ≡ true → before y.name x.name ≡ false
    below y (inl i) k = ap (λ (z : Listed). before z.name x.name) i ∙ before_irrefl x.name
    below y (inr i) k = absurd (both_ways (before a y.name) (h y i) k)
said_cons a x xs true e (Some z) h = go (before x.name z.name) refl
  where
    go : (c : Bool) → before x.name z.name ≡ c → Least a (x ∷ xs) (cond c x z)
    go true f = record { one_of = inl refl; after = e; least = below }
      where
        below : (y : Listed) → In y (x ∷ xs) → before a y.name ≡ true → before y.name x.name ≡ false
        below y (inl i) k = ap (λ (z : Listed). before z.name x.name) i ∙ before_irrefl x.name
        below y (inr i) k = false_from_ne_true (before y.name x.name) (λ g. both_ways (before y.name z.name) (h.least y i k) (before_trans y.name x.name z.name g f))
    go false f = record { one_of = inr h.one_of; after = h.after; least = below }
      where
        below : (y : Listed) → In y (x ∷ xs) → before a y.name ≡ true → before y.name z.name ≡ false
        below y (inl i) k = ap (λ (w : Listed). before w.name z.name) i ∙ f
        below y (inr i) k = h.least y i k
said_cons a x xs false e None h = below
  where
    below : (y : Listed) → In y (x ∷ xs) → before a y.name ≡ false
    below y (inl i) = ap (λ (z : Listed). before a z.name) i ∙ e
    below y (inr i) = h y i
said_cons a x xs false e (Some z) h = record { one_of = inr h.one_of; after = h.after; least = below }
  where
    below : (y : Listed) → In y (x ∷ xs) → before a y.name ≡ true → before y.name z.name ≡ false
    below y (inl i) k = absurd (both_ways (before a y.name) (ap (λ (z : Listed). before a z.name) i ∙ e) k)
    below y (inr i) k = h.least y i k

pub said : (a : Name) (xs : List Listed) → Said a xs (least_after a xs)
said a [] = λ x h. absurd h
said a (x ∷ xs) = said_cons a x xs (before a x.name) refl (least_after a xs) (said a xs)

-- one name, one item
abbrev NamesTell : List Listed → Type 0
NamesTell xs = (x y : Listed) → In x xs → In y xs → x.name ≡ y.name → x ≡ y

pub apart_tell : (xs : List Listed) → Apart xs → NamesTell xs
apart_tell [] a x y h k e = absurd h
apart_tell (z ∷ xs) a x y (inl i) (inl j) e = i ∙ sym j
apart_tell (z ∷ xs) a x y (inl i) (inr k) e = absurd (a.0 y k (ap (λ (w : Listed). w.name) (sym i) ∙ e))
apart_tell (z ∷ xs) a x y (inr h) (inl j) e = absurd (a.0 x h (ap (λ (w : Listed). w.name) (sym j) ∙ sym e))
apart_tell (z ∷ xs) a x y (inr h) (inr k) e = apart_tell xs a.1 x y h k e

one-least : (a : Name) (xs : List Listed) → NamesTell xs → (x y : Listed) → Least a xs x → Least a xs y → x ≡ y
one-least a xs d x y h k = go (before_tri x.name y.name)
  where
    go : (x.name ≡ y.name) ⊎ ((before x.name y.name ≡ true) ⊎ (before y.name x.name ≡ true)) → x ≡ y
    go (inl e) = d x y h.one_of k.one_of e
    go (inr (inl e)) = absurd (both_ways (before x.name y.name) (k.least x h.one_of h.after) e)
    go (inr (inr e)) = absurd (both_ways (before y.name x.name) (h.least y k.one_of k.after) e)

pub least-gives : (a : Name) (xs : List Listed) → NamesTell xs → (x : Listed) → (least_after a xs ≡ Some x) ↔ Least a xs x
least-gives a xs d x = ((λ e. subst (λ (o : Option Listed). Said a xs o) e (said a xs)), λ h. go h (least_after a xs) (said a xs))
  where
    go : Least a xs x → (o : Option Listed) → Said a xs o → o ≡ Some x
    go h None n = absurd (both_ways (before a x.name) (n x h.one_of) h.after)
    go h (Some y) k = ap (λ (z : Listed). Some z) (one-least a xs d y x k h)

pub least-ends : (a : Name) (xs : List Listed) → (least_after a xs ≡ None) ↔ NoneAfter a xs
least-ends a xs = ((λ e. subst (λ (o : Option Listed). Said a xs o) e (said a xs)), λ h. go h (least_after a xs) (said a xs))
  where
    go : NoneAfter a xs → (o : Option Listed) → Said a xs o → o ≡ None
    go n None h = refl
    go n (Some y) h = absurd (both_ways (before a y.name) (n y h.one_of) h.after)

-- in order ------------------------------------------------------------------------------------------

pub from-in_order : (n : ℕ) (a : Name) (xs : List Listed) (y : Listed) → In y (in_order n a xs) → In y xs × (before a y.name ≡ true)
from-in_order zero a xs y h = absurd h
from-in_order (suc n) a xs y h = go (λ x. from-in_order n x.name xs y) (least_after a xs) (said a xs) h
  where
    go : ((x : Listed) → In y (in_order n x.name xs) → In y xs × (before x.name y.name ≡ true)) → (o : Option Listed) → Said a xs o → In y (and_on o (λ x. in_order n x.name xs)) → In y xs × (before a y.name ≡ true)
    go ih None s h = absurd h
    go ih (Some x) s (inl e) = subst (λ (z : Listed). In z xs × (before a z.name ≡ true)) (sym e) (s.one_of, s.after)
    go ih (Some x) s (inr k) = let r = ih x k in (r.0, before_trans a x.name y.name s.after r.1)

-- each name before all later ones
abbrev pub Rise : List Listed → Type 0
Rise = Pairs (λ x y. before x.name y.name ≡ true)

pub in_order_rise : (n : ℕ) (a : Name) (xs : List Listed) → Rise (in_order n a xs)
in_order_rise zero a xs = tt
in_order_rise (suc n) a xs = go (λ x. in_order_rise n x.name xs) (least_after a xs)
  where
    go : ((x : Listed) → Rise (in_order n x.name xs)) → (o : Option Listed) → Rise (and_on o (λ x. in_order n x.name xs))
    go ih None = tt
    go ih (Some x) = ((λ y h. (from-in_order n x.name xs y h).1), ih x)

-- how many come after a
abbrev pub later : Name → List Listed → ℕ
later a [] = 0
later a (x ∷ xs) = cond (before a x.name) 1 0 + later a xs

pub later-long : (a : Name) (xs : List Listed) → later a xs ≤ length xs
later-long a [] = omega arith
later-long a (x ∷ xs) = go (before a x.name) (later-long a xs)
  where
    go : (b : Bool) → later a xs ≤ length xs → cond b 1 0 + later a xs ≤ suc (length xs)
    go true h = omega arith
    go false h = omega arith

less_one : (p q : Bool) (m n : ℕ) → (p ≡ true → q ≡ true) → m ≤ n → cond p 1 0 + m ≤ cond q 1 0 + n
less_one true true m n f h = omega arith
less_one true false m n f h = absurd (both_ways false refl (f refl))
less_one false true m n f h = omega arith
less_one false false m n f h = omega arith

less_two : (p q : Bool) (m n : ℕ) → (p ≡ true → q ≡ true) → m < n → cond p 1 0 + m < cond q 1 0 + n
less_two true true m n f h = omega arith
less_two true false m n f h = absurd (both_ways false refl (f refl))
less_two false true m n f h = omega arith
less_two false false m n f h = omega arith

less_now : (p q : Bool) (m n : ℕ) → p ≡ false → q ≡ true → m ≤ n → cond p 1 0 + m < cond q 1 0 + n
less_now p q m n e f h = rw (e, f) (omega arith)

module _ (a b : Name) (f : before a b ≡ true) where
  later_le : (xs : List Listed) → later b xs ≤ later a xs
  later_le [] = omega arith
  later_le (x ∷ xs) = less_one (before b x.name) (before a x.name) (later b xs) (later a xs) (before_trans a b x.name f) (later_le xs)

  pub later_lt : (xs : List Listed) (x : Listed) → In x xs → x.name ≡ b → later b xs < later a xs
  later_lt [] x h e = absurd h
  later_lt (y ∷ xs) x (inl i) e =
      let k : y.name ≡ b = ap (λ (z : Listed). z.name) (sym i) ∙ e in
      less_now (before b y.name) (before a y.name) (later b xs) (later a xs) (ap (before b) k ∙ before_irrefl b) (ap (before a) k ∙ f) (later_le xs)
  later_lt (y ∷ xs) x (inr h) e = less_two (before b y.name) (before a y.name) (later b xs) (later a xs) (before_trans a b y.name f) (later_lt xs x h e)

pub none_later : (a : Name) (xs : List Listed) → later a xs ≤ 0 → NoneAfter a xs
none_later a [] l y h = absurd h
none_later a (x ∷ xs) l y h = go (before a x.name) refl l (λ r k. none_later a xs r y k) h
  where
    go : (b : Bool) → before a x.name ≡ b → cond b 1 0 + later a xs ≤ 0 → (later a xs ≤ 0 → In y xs → before a y.name ≡ false) → In y (x ∷ xs) → before a y.name ≡ false
    go true e l ih h = absurd (omega arith)
    go false e l ih (inl i) = ap (λ (z : Listed). before a z.name) i ∙ e
    go false e l ih (inr k) = ih (omega arith) k

pub to_in_order : (n : ℕ) (a : Name) (xs : List Listed) → NamesTell xs → later a xs ≤ n → (y : Listed) → In y xs → before a y.name ≡ true → In y (in_order n a xs)
to_in_order zero a xs d l y h e = absurd (both_ways (before a y.name) (none_later a xs l y h) e)
to_in_order (suc n) a xs d l y h e = go (λ x k. to_in_order n x.name xs d k y h) (least_after a xs) (said a xs)
  where
    less : (m k : ℕ) → m < k → k ≤ suc n → m ≤ n
    less m k p q = omega arith

    go : ((x : Listed) → later x.name xs ≤ n → before x.name y.name ≡ true → In y (in_order n x.name xs)) → (o : Option Listed) → Said a xs o → In y (and_on o (λ x. in_order n x.name xs))
    go ih None s = absurd (both_ways (before a y.name) (s y h) e)
    go ih (Some x) s = at (before_tri x.name y.name)
      where
        at : (x.name ≡ y.name) ⊎ ((before x.name y.name ≡ true) ⊎ (before y.name x.name ≡ true)) → In y (x ∷ in_order n x.name xs)
        at (inl k) = inl (d y x h s.one_of (sym k))
        at (inr (inl k)) = inr (ih x (less (later x.name xs) (later a xs) (later_lt a x.name s.after xs x s.one_of refl) l) k)
        at (inr (inr k)) = absurd (both_ways (before y.name x.name) (s.least y h e) k)
