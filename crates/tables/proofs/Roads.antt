-- The library's lemmas on chains of iterators, where the clause `runs` or `ran` comes first and tells which closure is meant.
use Rattle.std.proofs.Common.{◌≡◌, Bool, Option, List, map, [], ◌∷◌, Bor, refl, sym, ap, ◌∙◌}
use Rattle.std.proofs.lemmas.Fn.{fold_over}
use Rattle.std.proofs.lemmas.Iterator.{YieldsList, YieldsList-from_map_by}
use Rattle.std.proofs.lemmas.Iterator.Consumers.{YieldsList-from_filter}
use Rattle.std.proofs.lemmas.List.Sums.{fold-append}
use Rattle.std.specs.Fn.{Called, CalledAt}
use Rattle.std.specs.Iterator.{FoldsItems}
use Rattle.std.specs.Iterator.Adapters.{filter_callee, filter_source, filter_steps, map_callee, map_source, map_steps}
use Rattle.std.specs.Iterator.Runs.{EachRunFrom, Run}
use Rattle.std.specs.List.{filter, fold}
use Rattle.std.specs.declared.iter.Filter.{Filter}
use Rattle.std.specs.declared.iter.Map.{Map}
use denote.Param.Members.{Mut}

pub filter_road : {S A B F : Type 0} {steps : S → Option A → S → Type 0} {v : A → B} {ys : List B} {s : Filter S F} {g : Mut F (Bor A × Unit {0}) Bool} {P : Run (filter_steps steps g) → Type 0} (test : B → Bool) {f : F}
    → EachRunFrom (filter_steps steps g) s P → YieldsList steps v (filter_source s) ys → filter_callee s ≡ f → ((x : A) (b : Bool) (q : F) → CalledAt g f x b q → (q ≡ f) × (b ≡ test (v x))) → YieldsList (filter_steps steps g) v s (filter test ys)
filter_road {g = g} test runs = YieldsList-from_filter g test

pub map_road : {S A B F R C : Type 0} {steps : S → Option A → S → Type 0} {v : A → B} {ys : List B} {s : Map S F} {g : Mut F (A × Unit {0}) R} {P : Run (map_steps steps g) → Type 0} (w : R → C) (h : B → C) {f : F}
    → EachRunFrom (map_steps steps g) s P → YieldsList steps v (map_source s) ys → map_callee s ≡ f → ((x : A) (r : R) (q : F) → Called g f (x, tt) r q → (q ≡ f) × (w r ≡ h (v x))) → YieldsList (map_steps steps g) w s (map h ys)
map_road {g = g} w h runs = YieldsList-from_map_by g w h

pub fold_road : {S A B F C D : Type 0} {steps : S → Option A → S → Type 0} {v : A → B} {s : S} {ys : List B} {g : Mut F (C × (A × Unit {0})) C} {f : F} (w : C → D) (h : D → B → D) (a r : C)
    → YieldsList steps v s ys → FoldsItems steps g s f a r → ((c : C) (x : A) (b : C) (q : F) → Called g f (c, (x, tt)) b q → (w b ≡ h (w c) (v x)) × (q ≡ f)) → w r ≡ fold h (w a) ys
fold_road {steps = steps} {v = v} {s = s} {ys = ys} {g = g} {f = f} w h a r road ran step =
    fold_over steps v g (λ xs c. w c ≡ fold h (w a) xs) f (λ xs c x b q e k. let m = step c x b q k in (m.0 ∙ ap (λ d. h d (v x)) e ∙ sym (fold-append h (w a) xs (v x ∷ [])), m.1)) s ys a r road.runs refl ran
