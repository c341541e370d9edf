-- Octet strings that hold tokens.
use Rattle.std.specs.Prelude.{ℕ, List, ◌⊎◌}
use Rattle.krb_gss_tokens.specs.Mic.{Mic}
use Rattle.krb_show.specs.declared.show.Show.{Ghosts as ShowingOf}
use Rattle.krb_show.specs.Leaves.{octets_of}
use Rattle.krb_show.specs.Tokens.{Label, Token}
use Rattle.krb_show_tokens.specs.Told.{IsMicOf}

-- octets that are a MIC token are shown as that token, and others as octets
abbrev pub mic_or_octets : {K : Type 0} → ShowingOf Mic K → Label → List ℕ → List Token → List Token → Type 0
mic_or_octets showing label octets old new =
    ((t : Mic) × IsMicOf octets t × showing.shows label t old new) ⊎ (((t : Mic) → IsMicOf octets t → ⊥) × octets_of label octets old new)
