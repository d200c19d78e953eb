-- The successors of the walk's items are the items that the walk meets next.
use Rattle.std.proofs.Common.{◌≡◌, ℕ, zero, suc, ◌+◌, ◌<◌, ◌≤◌, Bool, true, false, cond, eqb, List, [], ◌∷◌, ◌++◌, length, get_or, Some, None, Option, sym, refl, ap, ◌∙◌, subst, ap₂, inl, inr, arith}
use Rattle.std.proofs.lemmas.List.{length_push}
use Rattle.model.specs.Image.{Image}
use Rattle.model.specs.Names.{Name}
use Rattle.model.specs.Tables.{root, Entry, Tables, no_entry, trimmed, climbs}
use Rattle.model.specs.Tree.{Kind, directory, file}
use Rattle.model.specs.Volume.{climb}
use Rattle.model.specs.Answers.{Listed, listing, least_after}
use Rattle.model.specs.Sound.{Shaped, Sound}
use Rattle.model.specs.Order.{In, Held, and_on, in_order, children_in_order, if_dir, each_with, preorder, or_else, onward, first_in, successor, trail}
use Rattle.model.proofs.Tables.Climbs.{Place, not_root, climbs-up, place-climbs}
use Rattle.model.proofs.Books.Leasts.{Said, said, least-ends, later, later-long, later_lt, none_later}
use Rattle.model.proofs.Books.Listings.{from-listing, listing-long}
use Rattle.model.proofs.Books.Preorders.{child_road, dir_road}

-- xs is what comes from o on, before p
abbrev Links : Tables → Option Listed → List Listed → Option Listed → Type 0
Links t o [] p = o ≡ p
Links t o (x ∷ xs) p = (o ≡ Some x) × Links t (successor t x) xs p

links_join : (t : Tables) (o p q : Option Listed) (xs ys : List Listed) → Links t o xs p → Links t p ys q → Links t o (xs ++ ys) q
links_join t o p q [] ys h k = subst (λ (r : Option Listed). Links t r ys q) (sym h) k
links_join t o p q (x ∷ xs) ys h k = (h.0, links_join t (successor t x) p q xs ys h.1 k)

pub links_trail : (t : Tables) (xs : List Listed) (o : Option Listed) → Links t o xs None → (n : ℕ) → length xs ≤ n → trail t n o ≡ xs
links_trail t [] o h zero l = refl
links_trail t [] o h (suc n) l = ap (λ (p : Option Listed). and_on p (λ x. trail t n (successor t x))) h
links_trail t (x ∷ xs) o h zero l = absurd (omega arith)
links_trail t (x ∷ xs) o h (suc n) l = ap (λ (p : Option Listed). and_on p (λ x. trail t n (successor t x))) h.0 ∙ ap (λ (ys : List Listed). x ∷ ys) (links_trail t xs (successor t x) h.1 n (omega arith))

-- what comes after all that d holds
abbrev past : Tables → ℕ → ℕ → Option Listed
past t n d = cond (eqb d root) None (onward t n (get_or t.dirs d no_entry).parent (trimmed (get_or t.dirs d no_entry).name))

-- once the root is in reach, more steps change nothing
onward-same : (t : Tables) (m d : ℕ) (a : Name) → climbs t.dirs m d ≡ true → (n k : ℕ) → m < n → m < k → onward t n d a ≡ onward t k d a
onward-same t m d a c zero k l r = absurd (omega arith)
onward-same t m d a c (suc n) zero l r = absurd (omega arith)
onward-same t zero d a c (suc n) (suc k) l r = ap (or_else (least_after a (listing t d))) (ap (λ (b : Bool). cond b None (onward t n (get_or t.dirs d no_entry).parent (trimmed (get_or t.dirs d no_entry).name))) c ∙ sym (ap (λ (b : Bool). cond b None (onward t k (get_or t.dirs d no_entry).parent (trimmed (get_or t.dirs d no_entry).name))) c))
onward-same t (suc m) d a c (suc n) (suc k) l r = ap (or_else (least_after a (listing t d))) (go (eqb d root) refl (λ h. onward-same t m (get_or t.dirs d no_entry).parent (trimmed (get_or t.dirs d no_entry).name) (climbs-up t.dirs m d h c).1 n k (omega arith) (omega arith)))
  where
    go : (b : Bool) → eqb d root ≡ b → (eqb d root ≡ false → onward t n (get_or t.dirs d no_entry).parent (trimmed (get_or t.dirs d no_entry).name) ≡ onward t k (get_or t.dirs d no_entry).parent (trimmed (get_or t.dirs d no_entry).name)) → cond b None (onward t n (get_or t.dirs d no_entry).parent (trimmed (get_or t.dirs d no_entry).name)) ≡ cond b None (onward t k (get_or t.dirs d no_entry).parent (trimmed (get_or t.dirs d no_entry).name))
    go true h ih = refl
    go false h ih = ih h

-- The walk from any directory, where `on` is the next after a name in a directory, and `by` what comes after all of it.
module _ (t : Tables) (on : ℕ → Name → Option Listed) (by : ℕ → Option Listed) (depth : ℕ → ℕ) (good : ℕ → Type 0)
    (on_step : (d : ℕ) (a : Name) → good d → on d a ≡ or_else (least_after a (listing t d)) (by d))
    (after : (d : ℕ) (x : Listed) → Held t d x → successor t x ≡ or_else (first_in t x.kind x.number) (on d x.name))
    (by-up : (d n : ℕ) (m : Name) → Held t d (record { kind = directory; number = n; name = m }) → (by n ≡ on d m) × good n)
    (shallow : (d : ℕ) → good d → depth d ≤ 32)
    (inner : (d n : ℕ) (m : Name) → Held t d (record { kind = directory; number = n; name = m }) → depth n ≡ suc (depth d))
    (held : (d : ℕ) (x : Listed) → In x (listing t d) → Held t d x)
    (few : (d : ℕ) → length (listing t d) ≤ 64) where
  abbrev Whole : ℕ → ℕ → Type 0
  Whole n d = Links t (or_else (least_after [] (listing t d)) (by d)) (preorder t n d) (by d)

  block : (n d : ℕ) (k : Kind) (e : ℕ) (m : Name) → Held t d (record { kind = k; number = e; name = m }) → ((e : ℕ) (m : Name) → Held t d (record { kind = directory; number = e; name = m }) → Whole n e) → Links t (or_else (first_in t k e) (on d m)) (if_dir k (preorder t n e)) (on d m)
  block n d directory e m h ih = subst (λ (o : Option Listed). Links t (or_else (least_after [] (listing t e)) o) (preorder t n e) o) (by-up d e m h).0 (ih e m h)
  block n d file e m h ih = refl

  ordered : (n d : ℕ) → good d → ((e : ℕ) (m : Name) → Held t d (record { kind = directory; number = e; name = m }) → Whole n e) → (k : ℕ) (a : Name) → later a (listing t d) ≤ k → Links t (or_else (least_after a (listing t d)) (by d)) (each_with (λ x. if_dir x.kind (preorder t n x.number)) (in_order k a (listing t d))) (by d)
  ordered n d g ih zero a l = ap (λ (o : Option Listed). or_else o (by d)) ((least-ends a (listing t d)).1 (none_later a (listing t d) l))
  ordered n d g ih (suc k) a l = go (least_after a (listing t d)) (said a (listing t d)) (λ b r. ordered n d g ih k b r)
    where
      less : (m p : ℕ) → m < p → p ≤ suc k → m ≤ k
      less m p u v = omega arith

      go : (o : Option Listed) → Said a (listing t d) o → ((b : Name) → later b (listing t d) ≤ k → Links t (or_else (least_after b (listing t d)) (by d)) (each_with (λ x. if_dir x.kind (preorder t n x.number)) (in_order k b (listing t d))) (by d)) → Links t (or_else o (by d)) (each_with (λ x. if_dir x.kind (preorder t n x.number)) (and_on o (λ x. in_order k x.name (listing t d)))) (by d)
      go None s rest = refl
      go (Some x) s rest =
          let h = held d x s.one_of in
          let f = if_dir x.kind (preorder t n x.number) in
          let u : Links t (successor t x) f (on d x.name) = subst (λ (o : Option Listed). Links t o f (on d x.name)) (sym (after d x h)) (block n d x.kind x.number x.name h ih) in
          let v = rest x.name (less (later x.name (listing t d)) (later a (listing t d)) (later_lt a x.name s.after (listing t d) x s.one_of refl) l) in
          (refl, links_join t (successor t x) (on d x.name) (by d) f (each_with (λ x. if_dir x.kind (preorder t n x.number)) (in_order k x.name (listing t d))) u (subst (λ (o : Option Listed). Links t o (each_with (λ x. if_dir x.kind (preorder t n x.number)) (in_order k x.name (listing t d))) (by d)) (sym (on_step d x.name g)) v))

  all-children : (n d : ℕ) → good d → ((e : ℕ) (m : Name) → Held t d (record { kind = directory; number = e; name = m }) → Whole n e) → Whole (suc n) d
  unfolding children_in_order
  all-children n d g ih = ordered n d g ih 64 [] (le (later [] (listing t d)) (length (listing t d)) (later-long [] (listing t d)) (few d))
    where
      le : (a b : ℕ) → a ≤ b → b ≤ 64 → a ≤ 64
      le a b p q = omega arith

  links : (n d : ℕ) → good d → 33 ≤ depth d + n → Whole n d
  links zero d g l = absurd (no (depth d) (shallow d g) l)
    where
      no : (a : ℕ) → a ≤ 32 → 33 ≤ a + 0 → ⊥
      no a p q = omega arith
  links (suc n) d g l = all-children n d g (λ e m h. links n e (by-up d e m h).1 (more (depth d) (depth e) (inner d e m h) l))
    where
      more : (a b : ℕ) → b ≡ suc a → 33 ≤ a + suc n → 33 ≤ b + n
      more a b p q = omega arith

climb-short : (ds : List Entry) (n d : ℕ) → length (climb ds n d) ≤ n
climb-short ds zero d = omega arith
climb-short ds (suc n) d = go (eqb d root) (climb-short ds n (get_or ds d no_entry).parent)
  where
    sum : (a b : ℕ) → b ≡ a + 1 → a ≤ n → b ≤ suc n
    sum a b p q = omega arith

    go : (b : Bool) → length (climb ds n (get_or ds d no_entry).parent) ≤ n → length (cond b [] (climb ds n (get_or ds d no_entry).parent ++ trimmed (get_or ds d no_entry).name ∷ [])) ≤ suc n
    go true h = omega arith
    go false h = sum (length (climb ds n (get_or ds d no_entry).parent)) (length (climb ds n (get_or ds d no_entry).parent ++ trimmed (get_or ds d no_entry).name ∷ [])) (length_push (climb ds n (get_or ds d no_entry).parent) (trimmed (get_or ds d no_entry).name)) h

module _ (i : Image) (t : Tables) (shaped : Shaped t) (s : Sound i t) where
  -- one step of `onward`, whatever is left to climb
  onward-step : (d : ℕ) (a : Name) → Place t.dirs d → onward t 33 d a ≡ or_else (least_after a (listing t d)) (past t 33 d)
  onward-step d a p = onward-same t 32 d a (place-climbs i t s d p) 33 34 (omega arith) (omega arith)

  after : (d : ℕ) (x : Listed) → Held t d x → successor t x ≡ or_else (first_in t x.kind x.number) (onward t 33 d x.name)
  unfolding successor
  after d x h = ap (λ (e : ℕ). or_else (first_in t x.kind x.number) (onward t 33 e x.name)) h.under

  by-up : (d n : ℕ) (m : Name) → Held t d (record { kind = directory; number = n; name = m }) → (past t 33 n ≡ onward t 33 d m) × Place t.dirs n
  by-up d n m h = (
    ap (λ (b : Bool). cond b None (onward t 33 (get_or t.dirs n no_entry).parent (trimmed (get_or t.dirs n no_entry).name))) (not_root n h.alive.0)
        ∙ ap₂ (λ (e : ℕ) (a : Name). onward t 33 e a) h.under (sym h.called),
    inr h.alive,
  )

  inner : (d n : ℕ) (m : Name) → Held t d (record { kind = directory; number = n; name = m }) → length (climb t.dirs 32 n) ≡ suc (length (climb t.dirs 32 d))
  inner d n m h = one (length (climb t.dirs 32 n)) (length (climb t.dirs 32 d ++ m ∷ [])) (length (climb t.dirs 32 d)) (ap length (dir_road i t shaped s n m h.alive ∙ child_road i t shaped s d (record { kind = directory; number = n; name = m }) h)) (length_push (climb t.dirs 32 d) m)
    where
      one : (a b c : ℕ) → a ≡ b → b ≡ c + 1 → a ≡ suc c
      one a b c p q = omega arith

  pub root_links : (n : ℕ) → 33 ≤ n → Links t (first_in t directory root) (preorder t n root) None
  root_links n l =
      let h = links t (onward t 33) (past t 33) (λ d. length (climb t.dirs 32 d)) (Place t.dirs) onward-step after by-up (λ d p. climb-short t.dirs 32 d) inner (from-listing i t shaped s) (listing-long i t shaped s) n root (inl refl) (enough (length (climb t.dirs 32 root)) l) in
      subst (λ (o : Option Listed). Links t o (preorder t n root) None) (or_none (first_in t directory root)) h
    where
      enough : (a : ℕ) → 33 ≤ n → 33 ≤ a + n
      enough a l = omega arith

      or_none : (o : Option Listed) → or_else o None ≡ o
      or_none None = refl
      or_none (Some x) = refl
