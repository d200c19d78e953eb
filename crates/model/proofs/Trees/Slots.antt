-- Trees number by number: what an entry stands for, and lists of items that change.
use Rattle.std.proofs.Common.{◌≡◌, ℕ, ◌<◌, Bool, true, false, cond, ◌⊎◌, List, [], ◌++◌, map, length, get_or, drop, set, Some, None, Option, sym, refl, ap, ◌∙◌, inl, inr, arith}
use Rattle.std.proofs.lemmas.List.{ext_get_or, get_or-map, get_or-set_other, get_or-set_same, length-map, length-set}
use Rattle.std.proofs.lemmas.Bool.{cases_eq}
use Rattle.model.specs.Image.{Image}
use Rattle.model.specs.Names.{Path, within}
use Rattle.model.specs.Tables.{Entry, no_entry}
use Rattle.model.specs.Tree.{Item, Numbered, Tree, carried}
use Rattle.model.specs.Volume.{dir_items, file_items}
use Rattle.model.proofs.Naming.Same.{shift}
use Rattle.model.proofs.Trees.Items.{dir_item, file_item, length-dir_items, dir_items-at, length-file_items, file_items-at}

pub same_tree : {a b c d : Numbered} → a ≡ b → c ≡ d → ◌≡◌ {A = Tree} (record { dirs = a; files = c }) (record { dirs = b; files = d })
same_tree p q = λ j. record { dirs = p j; files = q j }

-- what an entry stands for ------------------------------------------------------------------------

abbrev pub it : Bool → Path → List ℕ → Option Item
it b p c = cond b (Some (record { path = p; bytes = c })) None

pub it_same : (b : Bool) (p q : Path) (c d : List ℕ) → (b ≡ true → p ≡ q) → (b ≡ true → c ≡ d) → it b p c ≡ it b q d
it_same true p q c d h k = let e = h refl in let f = k refl in λ j. Some (record { path = e j; bytes = f j })
it_same false p q c d h k = refl

-- of two that may differ in whether they live
pub it_gone : (b : Bool) (p : Path) (c : List ℕ) → b ≡ false → it b p c ≡ None
it_gone b p c e = ap (λ x. it x p c) e

pub it_there : (b : Bool) (p q : Path) (c d : List ℕ) → b ≡ true → p ≡ q → c ≡ d → it b p c ≡ Some (record { path = q; bytes = d })
it_there b p q c d e f g = ap (λ x. it x p c) e ∙ (λ j. Some (record { path = f j; bytes = g j }))

pub it_out : (b : Bool) (p : Path) (c : List ℕ) (x : Item) → it b p c ≡ Some x → (b ≡ true) × (x.path ≡ p) × (x.bytes ≡ c)
it_out true p c x e = let q : ◌≡◌ {A = Item} (record { path = p; bytes = c }) x = cc in (refl, ap (λ y. y.path) (sym q), ap (λ y. y.bytes) (sym q))
it_out false p c x e = absurd cc

pub carried_it : (p q : Path) (b : Bool) (r : Path) (c : List ℕ) → carried p q (it b r c) ≡ it b (shift p q r) c
carried_it p q true r c = go (within p r)
  where
    go : (x : Bool) → cond {A = Option Item} x (Some (record { path = q ++ drop (length p) r; bytes = c })) (Some (record { path = r; bytes = c })) ≡ Some (record { path = cond x (q ++ drop (length p) r) r; bytes = c })
    go true = refl
    go false = refl
carried_it p q false r c = refl

-- lists of items ----------------------------------------------------------------------------------

module _ (ds ds' es es' : List Entry) (many : length es' ≡ length es) where
  pub dirs-map : (f : Option Item → Option Item) → ((k : ℕ) → k < length es → dir_item ds' (get_or es' k no_entry) ≡ f (dir_item ds (get_or es k no_entry))) → dir_items ds' es' ≡ map f (dir_items ds es)
  dirs-map f h =
      let a = length-dir_items ds' es' in
      let b = length-dir_items ds es in
      ext_get_or None (dir_items ds' es') (map f (dir_items ds es)) (a ∙ many ∙ sym b ∙ sym (length-map (dir_items ds es) f)) (λ k l. let m : k < length es = omega arith in let n : k < length es' = omega arith in let o : k < length (dir_items ds es) = omega arith in dir_items-at ds' es' k n ∙ h k m ∙ ap f (sym (dir_items-at ds es k m)) ∙ sym (get_or-map f (dir_items ds es) k None None o))

  pub dirs-put : (n : ℕ) (x : Option Item) → n < length es → dir_item ds' (get_or es' n no_entry) ≡ x → ((k : ℕ) → (k ≡ n → ⊥) → k < length es → dir_item ds' (get_or es' k no_entry) ≡ dir_item ds (get_or es k no_entry)) → dir_items ds' es' ≡ set (dir_items ds es) n x
  dirs-put n x u e h =
      let a = length-dir_items ds' es' in
      let b = length-dir_items ds es in
      let c = length-set (dir_items ds es) n x in
      ext_get_or None (dir_items ds' es') (set (dir_items ds es) n x) (a ∙ many ∙ sym b ∙ sym c) (λ k l. let m : k < length es = omega arith in let v : k < length es' = omega arith in dir_items-at ds' es' k v ∙ go k m (cases_eq k n))
    where
      go : (k : ℕ) → k < length es → (k ≡ n) ⊎ (k ≡ n → ⊥) → dir_item ds' (get_or es' k no_entry) ≡ get_or (set (dir_items ds es) n x) k None
      go k m (inl z) =
          let b = length-dir_items ds es in
          let o : n < length (dir_items ds es) = omega arith in
          ap (λ y. dir_item ds' (get_or es' y no_entry)) z ∙ e ∙ sym (get_or-set_same (dir_items ds es) n x None o) ∙ ap (λ y. get_or (set (dir_items ds es) n x) y None) (sym z)
      go k m (inr z) = h k z m ∙ sym (dir_items-at ds es k m) ∙ sym (get_or-set_other (dir_items ds es) n k x None z)

module _ (ds ds' : List Entry) (i i' : Image) (es es' : List Entry) (rs rs' : List (List ℕ)) (many : length es' ≡ length es) (rows : length es ≡ length rs) (rows' : length es' ≡ length rs') where
  old : (k : ℕ) → k < length es → get_or (file_items ds i es rs) k None ≡ file_item ds i (get_or es k no_entry) (get_or rs k [])
  old k l = file_items-at ds i es rs k l (omega arith)

  new : (k : ℕ) → k < length es → get_or (file_items ds' i' es' rs') k None ≡ file_item ds' i' (get_or es' k no_entry) (get_or rs' k [])
  new k l = file_items-at ds' i' es' rs' k (omega arith) (omega arith)

  lengths : length (file_items ds' i' es' rs') ≡ length (file_items ds i es rs)
  lengths = length-file_items ds' i' es' rs' rows' ∙ many ∙ sym (length-file_items ds i es rs rows)

  pub files_keep : ((k : ℕ) → k < length es → file_item ds' i' (get_or es' k no_entry) (get_or rs' k []) ≡ file_item ds i (get_or es k no_entry) (get_or rs k [])) → file_items ds' i' es' rs' ≡ file_items ds i es rs
  files_keep h =
      let a = length-file_items ds' i' es' rs' rows' in
      ext_get_or None (file_items ds' i' es' rs') (file_items ds i es rs) lengths (λ k l. let m : k < length es = omega arith in new k m ∙ h k m ∙ sym (old k m))

  pub files-map : (f : Option Item → Option Item) → ((k : ℕ) → k < length es → file_item ds' i' (get_or es' k no_entry) (get_or rs' k []) ≡ f (file_item ds i (get_or es k no_entry) (get_or rs k []))) → file_items ds' i' es' rs' ≡ map f (file_items ds i es rs)
  files-map f h =
      let a = length-file_items ds' i' es' rs' rows' in
      let b = length-file_items ds i es rs rows in
      ext_get_or None (file_items ds' i' es' rs') (map f (file_items ds i es rs)) (lengths ∙ sym (length-map (file_items ds i es rs) f)) (λ k l. let m : k < length es = omega arith in let o : k < length (file_items ds i es rs) = omega arith in new k m ∙ h k m ∙ ap f (sym (old k m)) ∙ sym (get_or-map f (file_items ds i es rs) k None None o))

  pub files-put : (n : ℕ) (x : Option Item) → n < length es → file_item ds' i' (get_or es' n no_entry) (get_or rs' n []) ≡ x → ((k : ℕ) → (k ≡ n → ⊥) → k < length es → file_item ds' i' (get_or es' k no_entry) (get_or rs' k []) ≡ file_item ds i (get_or es k no_entry) (get_or rs k [])) → file_items ds' i' es' rs' ≡ set (file_items ds i es rs) n x
  files-put n x u e h =
      let a = length-file_items ds' i' es' rs' rows' in
      ext_get_or None (file_items ds' i' es' rs') (set (file_items ds i es rs) n x) (lengths ∙ sym (length-set (file_items ds i es rs) n x)) (λ k l. let m : k < length es = omega arith in new k m ∙ go k m (cases_eq k n))
    where
      go : (k : ℕ) → k < length es → (k ≡ n) ⊎ (k ≡ n → ⊥) → file_item ds' i' (get_or es' k no_entry) (get_or rs' k []) ≡ get_or (set (file_items ds i es rs) n x) k None
      go k m (inl z) =
          let b = length-file_items ds i es rs rows in
          let o : n < length (file_items ds i es rs) = omega arith in
          ap (λ y. file_item ds' i' (get_or es' y no_entry) (get_or rs' y [])) z ∙ e ∙ sym (get_or-set_same (file_items ds i es rs) n x None o) ∙ ap (λ y. get_or (set (file_items ds i es rs) n x) y None) (sym z)
      go k m (inr z) = h k z m ∙ sym (old k m) ∙ sym (get_or-set_other (file_items ds i es rs) n k x None z)
