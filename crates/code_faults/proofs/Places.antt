-- The place of a fault, from a constituent to what it stands in.
use Rattle.std.proofs.Common.{◌≡◌, ℕ, List, [], length, refl, sym, subst}
use Rattle.code_faults.specs.declared.fault.ReadFault.{ReadFault}
use Rattle.code_faults.specs.declared.fault.ReadFault.TheVariants as fault
use Rattle.code_faults.specs.Beginning.{IsAt, Goes}

-- a constituent is begun as far as one of its own
pub goes-on : {e : ReadFault} {P Q : List ℕ → Type 0} → Goes e P → ((after : List ℕ) → P after → Q after) → Goes e Q
goes-on g f = record { after = g.after; place = g.place; begun = f g.after g.begun }

-- it is blamed where these are left
pub goes-here : {e : ReadFault} {P : List ℕ → Type 0} (after : List ℕ) → P after → IsAt e after → Goes e P
goes-here after b h = record { after = after; place = h; begun = b }

pub goes-at : {at : ℕ} {e : ReadFault} {P : List ℕ → Type 0} (after : List ℕ) → P after → e ≡ fault.NotCanonical at → at ≡ length after → Goes e P
goes-at {P = P} after b h p = subst (λ (x : ReadFault). Goes x P) (sym h) (record { after = after; place = p; begun = b })

-- it ends
pub goes-short : {at : ℕ} {e : ReadFault} {P : List ℕ → Type 0} → P [] → e ≡ fault.Short at → Goes e P
goes-short {P = P} b h = subst (λ (x : ReadFault). Goes x P) (sym h) (record { after = []; place = refl; begun = b })

-- it is the length of a name, and it is 0
pub goes-unnamed : {at : ℕ} {e : ReadFault} {P : List ℕ → Type 0} (after : List ℕ) → P after → e ≡ fault.Unnamed at → at ≡ length after → Goes e P
goes-unnamed {P = P} after b h p = subst (λ (x : ReadFault). Goes x P) (sym h) (record { after = after; place = p; begun = b })
