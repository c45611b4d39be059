-- What a write to a map does to the files that it tells.
use Rattle.std.proofs.Common.{◌≡◌, ◌∙◌, ℕ, List, Option, Some, None, Vec, String, option_map, ap, refl, Bool, true, false, cond}
use Rattle.std.specs.declared.alloc.Global.{Global}
use Rattle.std.specs.BTreeMap.{BTreeMap, UpdatesBy, get_by_text}
use Rattle.std.specs.Cmp.Lexicographic.{slice_cmp}
use Rattle.std.specs.Ordering.{nat_cmp}
use Rattle.std.specs.Str.{bytes_eq}
use Rattle.std.specs.String.{string_cmp, string_bytes}
use Rattle.std.proofs.lemmas.Map.Text.{btree_map_updates_text}
use Rattle.rho_outside.specs.FileMap.{FileMap, with_file, SameBut}
use Rattle.rho_outside.specs.Files.{files_of}

-- two functions that agree everywhere are equal
pub same_files : (f g : FileMap) → ((q : List ℕ) → f q ≡ g q) → f ≡ g
same_files f g h = λ i q. h q i

-- what did not change holds what it held
pub SameBut-same : (name : List ℕ) (old new : Option FileMap) → new ≡ old → SameBut name old new
SameBut-same name None None e = tt
SameBut-same name (Some f) (Some g) e = λ q _. ap (λ o. elim o [ None ↦ None | Some x ↦ x q ]) e
SameBut-same name None (Some g) e = Prim.cc
SameBut-same name (Some f) None e = Prim.cc

-- an insert sets one entry
pub files_of-insert : (m n : BTreeMap (String Global) (Vec ℕ Global)) (name bytes : List ℕ) (v : Vec ℕ Global) → v.items ≡ bytes
    → UpdatesBy string_cmp (λ k. slice_cmp nat_cmp name (string_bytes k)) m n (Some v)
    → files_of n ≡ with_file name bytes (files_of m)
files_of-insert m n name bytes v items updates =
    let each : (b : Bool) (o : Option (Vec ℕ Global)) → option_map (λ v. v.items) (cond b (Some v) o) ≡ cond b (Some bytes) (option_map (λ v. v.items) o)
    = λ b o. elim b as (λ b. option_map (λ v. v.items) (cond b (Some v) o) ≡ cond b (Some bytes) (option_map (λ v. v.items) o)) [ true ↦ ap Some items | false ↦ refl ]
    in same_files _ _ (λ q. ap (option_map (λ v. v.items)) (btree_map_updates_text name m n (Some v) updates q) ∙ each (bytes_eq name q) (get_by_text m q))
