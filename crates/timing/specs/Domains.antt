-- The two domains in memory and in text.
use Rattle.std.specs.Prelude.{◌≡◌, ℕ, ◌↔◌, List, codes, Result, MatchResult, ◌≢◌}
use Rattle.timing.specs.Plans.{PinKept}
use Rattle.timing.specs.declared.domain.Domain.{Domain}
use Rattle.timing.specs.declared.domain.Domain.TheVariants.{Early, Late}
use Rattle.timing.specs.declared.domain.NoSuchDomain.{NoSuchDomain}

-- the byte that stands for a domain, in domain memory and in pin memory
abbrev pub domain_byte : Domain → ℕ
domain_byte Early = 0
domain_byte Late = 1

-- a pin byte asks for a domain: that domain keeps it, and no other does
abbrev pub AsksFor : ℕ → Domain → Type 0
AsksFor byte d = (e : Domain) → PinKept byte e ↔ (e ≡ d)

-- what a domain is called
abbrev pub domain_name : Domain → List ℕ
domain_name Early = codes "early"
domain_name Late = codes "late"

-- a word is read as the domain that it names, and as none where it names none
abbrev pub NamesDomain : List ℕ → Result Domain NoSuchDomain → Type 0
NamesDomain word r = MatchResult r (λ d. word ≡ domain_name d) (λ _. (d : Domain) → word ≢ domain_name d)
