-- Whether a client waits for an AP-REP.
use Rattle.std.proofs.Common.{◌≡◌, inl, inr, ℕ, ◌==◌, ◌/◌, ◌%◌, Bool, true, false, List, sym, ◌∙◌, MatchBool}
use Rattle.std.proofs.lemmas.Bool.{eqb-false, eqb-true, false≢true}
use Rattle.krb_types.specs.Flags.{is_set}
use Rattle.krb_accept_rules.specs.declared.accepted.Accepted.{Accepted}
use Rattle.krb_accept.specs.Said.{HasChecksum, HasNoChecksum}
use Rattle.krb_accept.specs.Wanted.{WantsReply}

not_by_flags : (a : Accepted) (flags : ℕ) (octets : List ℕ) → HasChecksum a.checksum octets → ((flags / 2 % 2 ≡ 1) → ⊥) → WantsReply a flags → ⊥
not_by_flags a flags octets has not (inl w) = not w.2
not_by_flags a flags octets has not (inr w) = w.0 octets has

not_by_options : (a : Accepted) (flags : ℕ) → HasNoChecksum a.checksum → (is_set a.options.octets 2 ≡ true → ⊥) → WantsReply a flags → ⊥
not_by_options a flags none not (inl w) = none w.0 w.1
not_by_options a flags none not (inr w) = not w.1

pub by_flags : (a : Accepted) (flags : ℕ) (octets : List ℕ) (r : Bool) → r ≡ (flags / 2 % 2 == 1) → HasChecksum a.checksum octets
    → MatchBool r (WantsReply a flags) (WantsReply a flags → ⊥)
by_flags a flags octets true is has = inl (octets, has, eqb-true (flags / 2 % 2) 1 (sym is))
by_flags a flags octets false is has = not_by_flags a flags octets has (eqb-false (flags / 2 % 2) 1 (sym is))

pub by_options : (a : Accepted) (flags : ℕ) (r : Bool) → r ≡ is_set a.options.octets 2 → HasNoChecksum a.checksum → MatchBool r (WantsReply a flags) (WantsReply a flags → ⊥)
by_options a flags true is none = inr (none, sym is)
by_options a flags false is none = not_by_options a flags none (λ set. false≢true (is ∙ set))
