-- The walk by `next` meets every item once, in the order of paths.
use Rattle.std.proofs.Common.{◌≡◌, ℕ, zero, suc, ◌+◌, ◌≤◌, true, ◌⊎◌, List, [], ◌∷◌, ◌++◌, length, get_or, sym, refl, ap, ◌∙◌, subst, ap₂, inl, inr, append_assoc, arith}
use Rattle.std.proofs.lemmas.Bool.{false≢true}
use Rattle.model.specs.Image.{Image}
use Rattle.model.specs.Names.{Name, Path, before, path_before, proper_name}
use Rattle.model.specs.Tables.{root, Tables, no_entry, trimmed, climbs}
use Rattle.model.specs.Tree.{Kind, directory, file}
use Rattle.model.specs.Volume.{climb, item_path}
use Rattle.model.specs.Answers.{Listed, listing}
use Rattle.model.specs.Sound.{Shaped, Live, Sound}
use Rattle.model.specs.Order.{In, entry_of, Held, children_in_order, if_dir, each_with, preorder}
use Rattle.model.proofs.Common.Lists.{in_left, in_right, in_append, Pairs, pairs_append}
use Rattle.model.proofs.Naming.Orders.{path_lt, path_eq}
use Rattle.model.proofs.Tables.Climbs.{up, Step, climbs_cases, climbs_zero, place-climbs, climb-live}
use Rattle.model.proofs.Books.Leasts.{apart_tell, from-in_order, Rise, in_order_rise, later, later-long, to_in_order}
use Rattle.model.proofs.Books.Listings.{held_proper, from-listing, to_listing, listing-apart, listing-long}

-- lists of items with what follows each -----------------------------------------------------------

from_each : (f : Listed → List Listed) (xs : List Listed) (z : Listed) → In z (each_with f xs) → (x : Listed) × In x xs × ((z ≡ x) ⊎ In z (f x))
from_each f [] z h = absurd h
from_each f (x ∷ xs) z (inl e) = (x, inl refl, inl e)
from_each f (x ∷ xs) z (inr h) = go (in_append z (f x) (each_with f xs) h) (from_each f xs z)
  where
    go : In z (f x) ⊎ In z (each_with f xs) → (In z (each_with f xs) → (y : Listed) × In y xs × ((z ≡ y) ⊎ In z (f y))) → (y : Listed) × In y (x ∷ xs) × ((z ≡ y) ⊎ In z (f y))
    go (inl k) ih = (x, inl refl, inr k)
    go (inr k) ih = let r = ih k in (r.0, inr r.1, r.2)

to_each : (f : Listed → List Listed) (xs : List Listed) (z x : Listed) → In x xs → (z ≡ x) ⊎ In z (f x) → In z (each_with f xs)
to_each f [] z x h k = absurd h
to_each f (y ∷ xs) z x (inl e) (inl k) = inl (k ∙ e)
to_each f (y ∷ xs) z x (inl e) (inr k) = inr (in_left z (f y) (each_with f xs) (subst (λ (w : Listed). In z (f w)) e k))
to_each f (y ∷ xs) z x (inr h) k = inr (in_right z (f y) (each_with f xs) (to_each f xs z x h k))

-- each path before all later ones
abbrev pub Mounts : (Listed → Path) → List Listed → Type 0
Mounts g = Pairs (λ x y. path_before (g x) (g y) ≡ true)

beyond : (b p q : Path) → path_before p q ≡ true → path_before (b ++ p) (b ++ q) ≡ true
beyond [] p q h = h
beyond (n ∷ b) p q h = path_eq n n (b ++ p) (b ++ q) refl (beyond b p q h)

-- p goes down from b by the name m
abbrev Down : Path → Name → Path → Type 0
Down b m p = (q : Path) × (p ≡ b ++ m ∷ q)

aside : (b : Path) (n m : Name) (p q : Path) → before n m ≡ true → Down b n p → Down b m q → path_before p q ≡ true
aside b n m p q h u v = subst (λ (r : Path). path_before r q ≡ true) (sym u.1) (subst (λ (r : Path). path_before (b ++ n ∷ u.0) r ≡ true) (sym v.1) (beyond b (n ∷ u.0) (m ∷ v.0) (path_lt n m u.0 v.0 h)))

deeper : (b : Path) (n m : Name) (p q r : Path) → p ≡ b ++ n ∷ [] → q ≡ b ++ n ∷ (m ∷ r) → path_before p q ≡ true
deeper b n m p q r u v = subst (λ (x : Path). path_before x q ≡ true) (sym u) (subst (λ (x : Path). path_before (b ++ n ∷ []) x ≡ true) (sym v) (beyond b (n ∷ []) (n ∷ (m ∷ r)) (path_eq n n [] (m ∷ r) refl refl)))

-- children in the order of their names, each followed by what lies beneath it
module _ (g : Listed → Path) (b : Path) (f : Listed → List Listed) where
  abbrev Beneath : List Listed → Type 0
  Beneath xs = (x : Listed) → In x xs → (g x ≡ b ++ x.name ∷ []) × ((z : Listed) → In z (f x) → (m : Name) × (q : Path) × (g z ≡ b ++ x.name ∷ (m ∷ q))) × Mounts g (f x)

  down : (xs : List Listed) (x z : Listed) → Beneath xs → In x xs → (z ≡ x) ⊎ In z (f x) → Down b x.name (g z)
  down xs x z h k (inl e) = ([], ap g e ∙ (h x k).0)
  down xs x z h k (inr j) = let r = (h x k).1 z j in (r.0 ∷ r.1, r.2)

  mounts_each : (xs : List Listed) → Rise xs → Beneath xs → Mounts g (each_with f xs)
  mounts_each [] r h = tt
  mounts_each (x ∷ xs) r h = ((λ y k. head y (in_append y (f x) (each_with f xs) k)), pairs_append (λ x y. path_before (g x) (g y) ≡ true) (f x) (each_with f xs) (h x (inl refl)).2 (mounts_each xs r.1 (λ y k. h y (inr k))) (λ u v j k. over u v (inr j) k))
    where
      over : (u v : Listed) → (u ≡ x) ⊎ In u (f x) → In v (each_with f xs) → path_before (g u) (g v) ≡ true
      over u v j k =
          let w = from_each f xs v k in
          aside b x.name w.0.name (g u) (g v) (r.0 w.0 w.1) (down (x ∷ xs) x u h (inl refl) j) (down (x ∷ xs) w.0 v h (inr w.1) w.2)

      head : (y : Listed) → In y (f x) ⊎ In y (each_with f xs) → path_before (g x) (g y) ≡ true
      head y (inl k) = let w = (h x (inl refl)).1 y k in deeper b x.name w.0 (g x) (g y) w.1 (h x (inl refl)).0 w.2
      head y (inr k) = over x y (inl refl) k

-- the walk ------------------------------------------------------------------------------------------

-- an item by its kind, number and name
abbrev Item : Tables → Listed → Type 0
Item t z = Held t (entry_of t z).parent z

-- the path of an item
abbrev pub road : Tables → Listed → Path
road t z = item_path t.dirs (entry_of t z)

some_name : (n : Name) → proper_name n ≡ true → before [] n ≡ true
some_name [] h = absurd (false≢true h)
some_name (x ∷ n) h = refl

module _ (i : Image) (t : Tables) (shaped : Shaped t) (s : Sound i t) where
  named : (d : ℕ) (x : Listed) → Held t d x → before [] x.name ≡ true
  named d x h = some_name x.name (ap proper_name h.called ∙ (held_proper i t shaped s d x h).named)

  from-children : (d : ℕ) (x : Listed) → In x (children_in_order t d) → Held t d x
  unfolding children_in_order
  from-children d x h = from-listing i t shaped s d x (from-in_order 64 [] (listing t d) x h).0

  to_children : (d : ℕ) (x : Listed) → Held t d x → In x (children_in_order t d)
  unfolding children_in_order
  to_children d x h = to_in_order 64 [] (listing t d) (apart_tell (listing t d) (listing-apart i t shaped s d)) (few (later [] (listing t d)) (length (listing t d)) (later-long [] (listing t d)) (listing-long i t shaped s d)) x (to_listing i t shaped s d x h) (named d x h)
    where
      few : (a b : ℕ) → a ≤ b → b ≤ 64 → a ≤ 64
      few a b p q = omega arith

  children_rise : (d : ℕ) → Rise (children_in_order t d)
  unfolding children_in_order
  children_rise d = in_order_rise 64 [] (listing t d)

  held-item : (d : ℕ) (x : Listed) → Held t d x → Item t x
  held-item d x h = record { alive = h.alive; under = refl; called = h.called }

  -- the path of a child, and of a directory
  pub child_road : (d : ℕ) (x : Listed) → Held t d x → road t x ≡ climb t.dirs 32 d ++ x.name ∷ []
  child_road d x h = ap₂ (λ (n : ℕ) (m : Name). climb t.dirs 32 n ++ m ∷ []) h.under (sym h.called)

  pub dir_road : (n : ℕ) (m : Name) → Live t.dirs n → climb t.dirs 32 n ≡ road t (record { kind = directory; number = n; name = m })
  dir_road n m l = climb-live i t s n l

  -- what the walk meets below d
  record Met (d : ℕ) (z : Listed) : Type 0 where
    item : Item t z
    first : Name
    rest : Path
    below : road t z ≡ climb t.dirs 32 d ++ first ∷ rest

  step : (d : ℕ) (k : Kind) (n : ℕ) (m : Name) (zs : List Listed) → Held t d (record { kind = k; number = n; name = m }) → (z : Listed) → (Live t.dirs n → In z zs → Met n z) → In z (if_dir k zs) → Item t z × ((a : Name) × (q : Path) × (road t z ≡ climb t.dirs 32 d ++ m ∷ (a ∷ q)))
  step d directory n m zs h z ih k =
      let r = ih h.alive k in
      let x : Listed = record { kind = directory; number = n; name = m } in
      (r.item, (r.first, r.rest, r.below ∙ ap (λ (p : Path). p ++ r.first ∷ r.rest) (dir_road n m h.alive ∙ child_road d x h) ∙ append_assoc (climb t.dirs 32 d) (m ∷ []) (r.first ∷ r.rest)))
  step d file n m zs h z ih k = absurd k

  met : (n d : ℕ) (z : Listed) → In z (preorder t n d) → Met d z
  met zero d z h = absurd h
  met (suc n) d z h = go (from_each (λ x. if_dir x.kind (preorder t n x.number)) (children_in_order t d) z h) (λ e. met n e z)
    where
      go : ((x : Listed) × In x (children_in_order t d) × ((z ≡ x) ⊎ In z (if_dir x.kind (preorder t n x.number)))) → ((e : ℕ) → In z (preorder t n e) → Met e z) → Met d z
      go w ih = at w.2
        where
          held : Held t d w.0
          held = from-children d w.0 w.1

          at : (z ≡ w.0) ⊎ In z (if_dir w.0.kind (preorder t n w.0.number)) → Met d z
          at (inl e) = subst (λ (y : Listed). Met d y) (sym e) (record { item = held-item d w.0 held; first = w.0.name; rest = []; below = child_road d w.0 held })
          at (inr k) =
              let r = step d w.0.kind w.0.number w.0.name (preorder t n w.0.number) held z (λ l j. ih w.0.number j) k in
              record { item = r.0; first = w.0.name; rest = r.1.0 ∷ r.1.1; below = r.1.2 }

  pub met-item : (n d : ℕ) (z : Listed) → In z (preorder t n d) → Item t z
  met-item n d z h = (met n d z h).item

  pub preorder_mounts : (n d : ℕ) → Mounts (road t) (preorder t n d)
  preorder_mounts zero d = tt
  preorder_mounts (suc n) d = mounts_each (road t) (climb t.dirs 32 d) (λ x. if_dir x.kind (preorder t n x.number)) (children_in_order t d) (children_rise d) (λ x h. each x (from-children d x h) (preorder_mounts n x.number))
    where
      each : (x : Listed) → Held t d x → Mounts (road t) (preorder t n x.number) → (road t x ≡ climb t.dirs 32 d ++ x.name ∷ []) × ((z : Listed) → In z (if_dir x.kind (preorder t n x.number)) → (m : Name) × (q : Path) × (road t z ≡ climb t.dirs 32 d ++ x.name ∷ (m ∷ q))) × Mounts (road t) (if_dir x.kind (preorder t n x.number))
      each x h r = (child_road d x h, (λ z k. (step d x.kind x.number x.name (preorder t n x.number) h z (λ l j. met n x.number z j) k).1), inner x.kind r)
        where
          inner : (k : Kind) → Mounts (road t) (preorder t n x.number) → Mounts (road t) (if_dir k (preorder t n x.number))
          inner directory h = h
          inner file h = tt

  -- every item is met
  child-met : (n d : ℕ) (x : Listed) → Held t d x → In x (preorder t (suc n) d)
  child-met n d x h = to_each (λ x. if_dir x.kind (preorder t n x.number)) (children_in_order t d) x x (to_children d x h) (inl refl)

  deep-met : (n e : ℕ) (z : Listed) → Live t.dirs e → In z (preorder t n e) → In z (preorder t (suc n) (up t.dirs e))
  deep-met n e z l h =
      let x : Listed = record { kind = directory; number = e; name = trimmed (get_or t.dirs e no_entry).name } in
      to_each (λ x. if_dir x.kind (preorder t n x.number)) (children_in_order t (up t.dirs e)) z x (to_children (up t.dirs e) x (record { alive = l; under = refl; called = refl })) (inr h)

  climb-met : (m k e : ℕ) (z : Listed) → climbs t.dirs m e ≡ true → ((n : ℕ) → k ≤ n → In z (preorder t n e)) → (n : ℕ) → m + k ≤ n → In z (preorder t n root)
  climb-met zero k e z c h n l = subst (λ (d : ℕ). In z (preorder t n d)) (climbs_zero t.dirs e c) (h n (less l))
    where
      less : 0 + k ≤ n → k ≤ n
      less l = omega arith
  climb-met (suc m) k e z c h n l = go (climbs_cases t.dirs m e c) (λ p a b. climb-met m (suc k) p z a b n (over l))
    where
      over : suc m + k ≤ n → m + suc k ≤ n
      over l = omega arith

      less : suc m + k ≤ n → k ≤ n
      less l = omega arith

      one : (a : ℕ) → suc k ≤ suc a → k ≤ a
      one a l = omega arith

      no : suc k ≤ 0 → ⊥
      no l = omega arith

      upper : Live t.dirs e → (n : ℕ) → suc k ≤ n → In z (preorder t n (up t.dirs e))
      upper a zero l = absurd (no l)
      upper a (suc n) l = deep-met n e z a (h n (one n l))

      go : Step t.dirs m e → ((p : ℕ) → climbs t.dirs m p ≡ true → ((n : ℕ) → suc k ≤ n → In z (preorder t n p)) → In z (preorder t n root)) → In z (preorder t n root)
      go (inl q) ih = subst (λ (d : ℕ). In z (preorder t n d)) q (h n (less l))
      go (inr q) ih = ih (up t.dirs e) q.2 (upper q.1)

  pub item-met : (z : Listed) → Item t z → (n : ℕ) → 33 ≤ n → In z (preorder t n root)
  item-met z h n l = climb-met 32 1 (entry_of t z).parent z (place-climbs i t s (entry_of t z).parent (held_proper i t shaped s (entry_of t z).parent z h).held) some n l
    where
      no : 1 ≤ 0 → ⊥
      no l = omega arith

      some : (n : ℕ) → 1 ≤ n → In z (preorder t n (entry_of t z).parent)
      some zero l = absurd (no l)
      some (suc n) l = child-met n (entry_of t z).parent z h
