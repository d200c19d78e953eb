-- The listing of a directory is what it holds, each name once.
use Rattle.std.proofs.Common.{◌≡◌, ℕ, zero, suc, ◌+◌, ◌<◌, ◌≤◌, Bool, true, false, cond, ◌&&◌, eqb, ◌⊎◌, List, [], ◌∷◌, ◌++◌, length, get_or, sym, refl, ap, ◌∙◌, subst, inl, inr, arith, length-append}
use Rattle.std.proofs.lemmas.Bool.{and_from, and_parts, cond-true, eq-eqb, eqb-true}
use Rattle.model.specs.Image.{Image}
use Rattle.model.specs.Names.{Name, padded}
use Rattle.model.specs.Tables.{Entry, Tables, no_entry, live, trimmed}
use Rattle.model.specs.Tree.{Kind, directory, file}
use Rattle.model.specs.Answers.{Listed, children, listing}
use Rattle.model.specs.Sound.{Shaped, Live, Proper, Sound}
use Rattle.model.specs.Order.{In, entries_of, entry_of, Held, Apart}
use Rattle.model.proofs.Common.Lists.{in_left, in_right, in_append}

-- x is entry `at` of the list, whose numbers begin with n
record Sits (k : Kind) (d n : ℕ) (es : List Entry) (x : Listed) : Type 0 where
  at : ℕ
  small : at < length es
  alive : live (get_or es at no_entry) ≡ true
  under : (get_or es at no_entry).parent ≡ d
  kind : x.kind ≡ k
  number : x.number ≡ n + at
  called : x.name ≡ trimmed (get_or es at no_entry).name

sits_later : (k : Kind) (d n : ℕ) (e : Entry) (es : List Entry) (x : Listed) → Sits k d (suc n) es x → Sits k d n (e ∷ es) x
sits_later k d n e es x s = record { at = suc s.at; small = (let a = s.small in omega arith); alive = s.alive; under = s.under; kind = s.kind; number = (let a = s.number in omega arith); called = s.called }

from-children : (k : Kind) (d n : ℕ) (es : List Entry) (x : Listed) → In x (children k d n es) → Sits k d n es x
from-children k d n [] x h = absurd h
from-children k d n (e ∷ es) x h = go (live e && eqb e.parent d) refl (λ a. sits_later k d n e es x (from-children k d (suc n) es x a)) h
  where
    go : (b : Bool) → (live e && eqb e.parent d) ≡ b → (In x (children k d (suc n) es) → Sits k d n (e ∷ es) x) → In x (cond b (record { kind = k; number = n; name = trimmed e.name } ∷ children k d (suc n) es) (children k d (suc n) es)) → Sits k d n (e ∷ es) x
    go true c ih (inl i) =
        let p = and_parts (live e) (eqb e.parent d) c in
        let m : x.number ≡ n = ap (λ (z : Listed). z.number) i in
        record { at = 0; small = omega arith; alive = p.0; under = eqb-true e.parent d p.1; kind = ap (λ (z : Listed). z.kind) i; number = omega arith; called = ap (λ (z : Listed). z.name) i }
    go true c ih (inr a) = ih a
    go false c ih a = ih a

to_children : (k : Kind) (d n : ℕ) (es : List Entry) (j : ℕ) → j < length es → live (get_or es j no_entry) ≡ true → (get_or es j no_entry).parent ≡ d → In (record { kind = k; number = n + j; name = trimmed (get_or es j no_entry).name }) (children k d n es)
to_children k d n [] j l a u = absurd (omega arith)
to_children k d n (e ∷ es) zero l a u =
    let m : n + 0 ≡ n = omega arith in
    let rest = children k d (suc n) es in
    let x : Listed = record { kind = k; number = n; name = trimmed e.name } in
    subst (λ (xs : List Listed). In (record { kind = k; number = n + 0; name = trimmed e.name }) xs) (sym (cond-true (live e && eqb e.parent d) (x ∷ rest) rest (and_from (live e) (eqb e.parent d) a (eq-eqb e.parent d u))))
    (inl (λ i. record { kind = k; number = m i; name = trimmed e.name }))
to_children k d n (e ∷ es) (suc j) l a u = go (live e && eqb e.parent d) (subst (λ (m : ℕ). In (record { kind = k; number = m; name = trimmed (get_or es j no_entry).name }) (children k d (suc n) es)) m (to_children k d (suc n) es j (omega arith) a u))
  where
    m : suc n + j ≡ n + suc j
    m = omega arith

    go : (b : Bool) → In (record { kind = k; number = n + suc j; name = trimmed (get_or es j no_entry).name }) (children k d (suc n) es) → In (record { kind = k; number = n + suc j; name = trimmed (get_or es j no_entry).name }) (cond b (record { kind = k; number = n; name = trimmed e.name } ∷ children k d (suc n) es) (children k d (suc n) es))
    go true h = inr h
    go false h = h

length-children : (k : Kind) (d n : ℕ) (es : List Entry) → length (children k d n es) ≤ length es
length-children k d n [] = omega arith
length-children k d n (e ∷ es) = go (live e && eqb e.parent d) (length-children k d (suc n) es)
  where
    go : (b : Bool) → length (children k d (suc n) es) ≤ length es → length (cond b (record { kind = k; number = n; name = trimmed e.name } ∷ children k d (suc n) es) (children k d (suc n) es)) ≤ suc (length es)
    go true h = omega arith
    go false h = omega arith

-- where one name means one item, the numbers keep names apart
apart-children : (k : Kind) (d n : ℕ) (es : List Entry) → ((x y : Listed) → In x (children k d n es) → In y (children k d n es) → x.name ≡ y.name → x ≡ y) → Apart (children k d n es)
apart-children k d n [] f = tt
apart-children k d n (e ∷ es) f = go (live e && eqb e.parent d) (apart-children k d (suc n) es) f
  where
    go : (b : Bool) → (((x y : Listed) → In x (children k d (suc n) es) → In y (children k d (suc n) es) → x.name ≡ y.name → x ≡ y) → Apart (children k d (suc n) es))
        → ((x y : Listed) → In x (cond b (record { kind = k; number = n; name = trimmed e.name } ∷ children k d (suc n) es) (children k d (suc n) es)) → In y (cond b (record { kind = k; number = n; name = trimmed e.name } ∷ children k d (suc n) es) (children k d (suc n) es)) → x.name ≡ y.name → x ≡ y)
        → Apart (cond b (record { kind = k; number = n; name = trimmed e.name } ∷ children k d (suc n) es) (children k d (suc n) es))
    go false ih f = ih f
    go true ih f = (first, ih (λ x y h k. f x y (inr h) (inr k)))
      where
        first : (y : Listed) → In y (children k d (suc n) es) → trimmed e.name ≡ y.name → ⊥
        first y h q =
            let z : n ≡ y.number = ap (λ (z : Listed). z.number) (f (record { kind = k; number = n; name = trimmed e.name }) y (inl refl) (inr h) q) in
            let s = (from-children k d (suc n) es y h).number in
            omega arith

apart_join : (xs ys : List Listed) → Apart xs → Apart ys → ((x y : Listed) → In x xs → In y ys → x.name ≡ y.name → ⊥) → Apart (xs ++ ys)
apart_join [] ys a b d = b
apart_join (x ∷ xs) ys a b d = ((λ y h e. go y e (in_append y xs ys h)), apart_join xs ys a.1 b (λ u v h k. d u v (inr h) k))
  where
    go : (y : Listed) → x.name ≡ y.name → In y xs ⊎ In y ys → ⊥
    go y e (inl h) = a.0 y h e
    go y e (inr h) = d x y (inl refl) h e

module _ (i : Image) (t : Tables) (shaped : Shaped t) (s : Sound i t) (d : ℕ) where
  many : (k : Kind) → length (entries_of t k) ≡ 32
  many directory = shaped.dirs_many
  many file = shaped.files_many

  proper : (k : Kind) (n : ℕ) → Live (entries_of t k) n → Proper t.dirs (get_or (entries_of t k) n no_entry)
  proper directory n l = s.dirs_proper n l
  proper file n l = s.files_proper n l

  pub held_proper : (x : Listed) → Held t d x → Proper t.dirs (entry_of t x)
  held_proper x h = proper x.kind x.number h.alive

  from-kind : (k : Kind) (x : Listed) → In x (children k d 0 (entries_of t k)) → (x.kind ≡ k) × Held t d x
  from-kind k x h =
      let r = from-children k d 0 (entries_of t k) x h in
      let m : r.at ≡ x.number = (let a = r.number in omega arith) in
      let same : ◌≡◌ {A = Listed} (record { kind = k; number = r.at; name = x.name }) x = λ j. record { kind = sym r.kind j; number = m j; name = x.name } in
      let small : r.at < 32 = (let a = r.small in let b = many k in omega arith) in
      (r.kind, subst (λ (z : Listed). Held t d z) same (record { alive = (small, r.alive); under = r.under; called = r.called }))

  to_kind : (k : Kind) (n : ℕ) (m : Name) → Held t d (record { kind = k; number = n; name = m }) → In (record { kind = k; number = n; name = m }) (children k d 0 (entries_of t k))
  to_kind k n m h =
      let z : 0 + n ≡ n = omega arith in
      let small : n < length (entries_of t k) = (let a = h.alive.0 in let b = many k in omega arith) in
      let same : ◌≡◌ {A = Listed} (record { kind = k; number = 0 + n; name = trimmed (get_or (entries_of t k) n no_entry).name }) (record { kind = k; number = n; name = m }) = λ j. record { kind = k; number = z j; name = sym h.called j } in
      subst (λ (z : Listed). In z (children k d 0 (entries_of t k))) same (to_children k d 0 (entries_of t k) n small h.alive.1 h.under)

  pub from-listing : (x : Listed) → In x (listing t d) → Held t d x
  from-listing x h = go (in_append x (children directory d 0 t.dirs) (children file d 0 t.files) h)
    where
      go : In x (children directory d 0 t.dirs) ⊎ In x (children file d 0 t.files) → Held t d x
      go (inl h) = (from-kind directory x h).1
      go (inr h) = (from-kind file x h).1

  pub to_listing : (x : Listed) → Held t d x → In x (listing t d)
  to_listing x h = go x.kind x.number x.name h
    where
      go : (k : Kind) (n : ℕ) (m : Name) → Held t d (record { kind = k; number = n; name = m }) → In (record { kind = k; number = n; name = m }) (listing t d)
      go directory n m h = in_left _ (children directory d 0 t.dirs) (children file d 0 t.files) (to_kind directory n m h)
      go file n m h = in_right _ (children directory d 0 t.dirs) (children file d 0 t.files) (to_kind file n m h)

  -- what two of one name share
  full_name : (x y : Listed) → Held t d x → Held t d y → x.name ≡ y.name → (entry_of t x).name ≡ (entry_of t y).name
  full_name x y h k e = (held_proper x h).filled ∙ ap padded (sym h.called ∙ e ∙ k.called) ∙ sym (held_proper y k).filled

  held_tell : (k : Kind) (m n : ℕ) (a b : Name) → Held t d (record { kind = k; number = m; name = a }) → Held t d (record { kind = k; number = n; name = b }) → a ≡ b → m ≡ n
  held_tell directory m n a b h k e = s.dirs_apart m n h.alive k.alive (h.under ∙ sym k.under) (full_name _ _ h k e)
  held_tell file m n a b h k e = s.files_apart m n h.alive k.alive (h.under ∙ sym k.under) (full_name _ _ h k e)

  held-differ : (m n : ℕ) (a b : Name) → Held t d (record { kind = directory; number = m; name = a }) → Held t d (record { kind = file; number = n; name = b }) → a ≡ b → ⊥
  held-differ m n a b h k e = s.kinds_apart m n h.alive k.alive (h.under ∙ sym k.under) (full_name _ _ h k e)

  kind_at : (k : Kind) (x : Listed) → (x.kind ≡ k) × Held t d x → Held t d (record { kind = k; number = x.number; name = x.name })
  kind_at k x h = subst (λ (j : Kind). Held t d (record { kind = j; number = x.number; name = x.name })) h.0 h.1

  kind_tell : (k : Kind) (x y : Listed) → In x (children k d 0 (entries_of t k)) → In y (children k d 0 (entries_of t k)) → x.name ≡ y.name → x ≡ y
  kind_tell k x y h j e =
      let a = from-kind k x h in
      let b = from-kind k y j in
      let n = held_tell k x.number y.number x.name y.name (kind_at k x a) (kind_at k y b) e in
      let q = a.0 ∙ sym b.0 in
      λ o. record { kind = q o; number = n o; name = e o }

  pub listing-apart : Apart (listing t d)
  listing-apart = apart_join (children directory d 0 t.dirs) (children file d 0 t.files) (apart-children directory d 0 t.dirs (kind_tell directory)) (apart-children file d 0 t.files (kind_tell file))
      (λ x y h k e. held-differ x.number y.number x.name y.name (kind_at directory x (from-kind directory x h)) (kind_at file y (from-kind file y k)) e)

  pub listing-long : length (listing t d) ≤ 64
  listing-long =
      let ds = children directory d 0 t.dirs in
      let fs = children file d 0 t.files in
      sum (length (ds ++ fs)) (length ds) (length fs) (length t.dirs) (length t.files) (length-append ds fs) (length-children directory d 0 t.dirs) (length-children file d 0 t.files) shaped.dirs_many shaped.files_many
    where
      sum : (n a b c e : ℕ) → n ≡ a + b → a ≤ c → b ≤ e → c ≡ 32 → e ≡ 32 → n ≤ 64
      sum n a b c e p q r u v = omega arith
