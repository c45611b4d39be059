-- What a refusal says of the rules that a process breaks.
use Rattle.std.specs.Prelude.{◌≡◌, List, [], ◌∷◌, ⊤, string_bytes, Option, Some, None}
use Rattle.scope.specs.Rules.{Broken, unbound, wants_name, wants_process, repeated, pattern_binder, pattern_wide, under_negation, unknown_uri}
use Rattle.input_faults.specs.declared.fault.ScopeFault.{ScopeFault}
use Rattle.input_faults.specs.declared.fault.ScopeFault.TheVariants as fault

-- the broken rule that a refusal names; want of memory names none
abbrev pub broken_rule : ScopeFault → Option Broken
broken_rule (fault.Unbound x) = Some (unbound (string_bytes x))
broken_rule (fault.WantsName x) = Some (wants_name (string_bytes x))
broken_rule (fault.WantsProcess x) = Some (wants_process (string_bytes x))
broken_rule (fault.Repeated x) = Some (repeated (string_bytes x))
broken_rule fault.PatternBinder = Some pattern_binder
broken_rule fault.PatternWide = Some pattern_wide
broken_rule (fault.UnderNegation x) = Some (under_negation (string_bytes x))
broken_rule (fault.UnknownUri u) = Some (unknown_uri (string_bytes u))
broken_rule fault.NoMemory = None

-- a broken rule is the first of these
abbrev pub StandsFirst : Broken → List Broken → Type 0
StandsFirst b [] = ⊥
StandsFirst b (c ∷ cs) = b ≡ c

-- where a refusal names a broken rule, it is the first of these
abbrev pub NamesFirst : Option Broken → List Broken → Type 0
NamesFirst None bs = ⊤
NamesFirst (Some b) bs = StandsFirst b bs

-- a refusal of what breaks these rules: it names the first one, or want of memory
pub record IsRefusal (e : ScopeFault) (bs : List Broken) : Type 0 where
  pub first : NamesFirst (broken_rule e) bs
