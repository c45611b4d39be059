-- What a process breaks in its own scope, it breaks in a wider one.
use Rattle.std.proofs.Common.{◌≡◌, List, [], ◌∷◌, ◌++◌, reverse, ap, sym, ◌∙◌, refl, append_assoc, Bool, true, false}
use Rattle.std.specs.Prelude.{Option, Some, cond, ◌||◌}
use Rattle.std.specs.Str.{bytes_eq}
use Rattle.calculus.specs.Variables.{Sense}
use Rattle.calculus.specs.Tree.{receive, case, bind, bundle, pattern, same, either, not_this, set_pattern, map_pattern}
use Rattle.calculus.specs.Written.{in_process, in_pattern, around, use_process, use_name, declare, bind_process, bind_name, bind_rest, closed, Written, form, Writtens, no_more, more}
use Rattle.scope.specs.Binding.{Scope, sense_of, is_absent, variables, declared_variables, inside, uses_more, any_uses_more}
use Rattle.scope.specs.Rules.{Reading, outside, after, past, under, process_use, name_use, declarations, where_so, pattern_wide, has_many_parts, all_parts_of, has_many_members, breaks, all_breaks}

or-first : (a b : Bool) → a || b ≡ false → a ≡ false
or-first true b h = h
or-first false b h = refl

or-second : (a b : Bool) → a || b ≡ false → b ≡ false
or-second true b h = cc
or-second false b h = h

narrow-cond : (q : Bool) (s : Sense) (o n : Option Sense) → is_absent (cond q (Some s) n) ≡ false → (is_absent n ≡ false → o ≡ n) → cond q (Some s) o ≡ cond q (Some s) n
narrow-cond true s o n h f = refl
narrow-cond false s o n h f = f h

pub sense-narrow : (x : List _) (xs v : Scope) → is_absent (sense_of x xs) ≡ false → sense_of x (xs ++ v) ≡ sense_of x xs
sense-narrow x [] v h = cc
sense-narrow x (y ∷ ys) v h = narrow-cond (bytes_eq x y.0) y.1 (sense_of x (ys ++ v)) (sense_of x ys) h (sense-narrow x ys v)

mutual
  pub breaks-narrow : (t : Written) (xs v : Scope) (r : Reading) → uses_more t xs ≡ false → breaks t (xs ++ v) r ≡ breaks t xs r
  breaks-narrow (form (use_process x) ts) xs v r h = ap (process_use x) (sense-narrow x xs v h)
  breaks-narrow (form (use_name x) ts) xs v r h = ap (name_use x) (sense-narrow x xs v h)
  breaks-narrow (form (bind_process x) ts) xs v r h = refl
  breaks-narrow (form (bind_name x) ts) xs v r h = refl
  breaks-narrow (form (bind_rest x) ts) xs v r h = refl
  breaks-narrow (form (declare ds) ts) xs v r h =
      ap (λ s. declarations ds [] ++ all_breaks ts s r) (sym (append_assoc (reverse (declared_variables ds)) xs v))
      ∙ ap (λ z. declarations ds [] ++ z) (all-narrow ts (inside (declared_variables ds) xs) v r h)
  breaks-narrow (form (in_process (receive k)) (more bs ts)) xs v r h =
      ap (λ z. z ++ all_breaks ts (inside (variables bs) (xs ++ v)) outside) (breaks-narrow bs xs v (after [] false) (or-first _ _ h))
      ∙ ap (λ s. breaks bs xs (after [] false) ++ all_breaks ts s outside) (sym (append_assoc (reverse (variables bs)) xs v))
      ∙ ap (λ z. breaks bs xs (after [] false) ++ z) (all-narrow ts (inside (variables bs) xs) v outside (or-second (uses_more bs xs) _ h))
  breaks-narrow (form (around case) (more p ts)) xs v r h =
      ap (λ z. z ++ all_breaks ts (inside (variables p) (xs ++ v)) outside) (breaks-narrow p xs v (after [] false) (or-first _ _ h))
      ∙ ap (λ s. breaks p xs (after [] false) ++ all_breaks ts s outside) (sym (append_assoc (reverse (variables p)) xs v))
      ∙ ap (λ z. breaks p xs (after [] false) ++ z) (all-narrow ts (inside (variables p) xs) v outside (or-second (uses_more p xs) _ h))
  breaks-narrow (form (around bind) (more c ts)) xs v r h =
      ap (λ z. z ++ breaks c (xs ++ v) outside) (all-narrow ts xs v r (or-second (uses_more c xs) _ h))
      ∙ ap (λ z. all_breaks ts xs r ++ z) (breaks-narrow c xs v outside (or-first _ _ h))
  breaks-narrow (form (in_pattern same) ts) xs v r h = all-narrow ts xs v outside h
  breaks-narrow (form closed ts) xs v r h = refl
  breaks-narrow (form (in_pattern pattern) ts) xs v r h = ap (λ z. where_so (has_many_parts (all_parts_of ts)) pattern_wide ++ z) (all-narrow ts xs v r h)
  breaks-narrow (form (in_pattern set_pattern) (more ms ts)) xs v r h = ap (λ z. where_so (has_many_members ms) pattern_wide ++ z) (all-narrow (more ms ts) xs v r h)
  breaks-narrow (form (in_pattern map_pattern) (more ms ts)) xs v r h = ap (λ z. where_so (has_many_members ms) pattern_wide ++ z) (all-narrow (more ms ts) xs v r h)
  breaks-narrow (form (in_pattern either) ts) xs v r h = all-narrow ts xs v (under r) h
  breaks-narrow (form (in_pattern not_this) ts) xs v r h = all-narrow ts xs v (under r) h
  breaks-narrow (form (in_pattern (bundle b)) ts) xs v r h = all-narrow ts xs v (under r) h
  breaks-narrow (form f ts) xs v r h = all-narrow ts xs v r h

  pub all-narrow : (ts : Writtens) (xs v : Scope) (r : Reading) → any_uses_more ts xs ≡ false → all_breaks ts (xs ++ v) r ≡ all_breaks ts xs r
  all-narrow no_more xs v r h = refl
  all-narrow (more t ts) xs v r h =
      ap (λ z. z ++ all_breaks ts (xs ++ v) (past t r)) (breaks-narrow t xs v r (or-first _ _ h))
      ∙ ap (λ z. breaks t xs r ++ z) (all-narrow ts xs v (past t r) (or-second (uses_more t xs) _ h))
