-- Whole runs of a side whose mechanisms run elsewhere: before each step the caller tells of them anew.
use Rattle.std.specs.Prelude.{◌≡◌, ℕ, List, [], ◌∷◌}
use Rattle.krb_der_core.specs.declared.der.DerEncode.{Ghosts as EncodingOf}
use Rattle.krb_gss_tokens.specs.declared.spnego.GssApiNegInit.{GssApiNegInit}
use Rattle.krb_gss_tokens.specs.declared.spnego.NegTokenTarg.{NegTokenTarg}
use Rattle.krb_spnego_rules.specs.declared.acceptor.Acceptor.{Acceptor}
use Rattle.krb_spnego_rules.specs.declared.acceptor.Acceptor.TheVariants as acceptors
use Rattle.krb_spnego_rules.specs.declared.acceptor.Bare.{Bare}
use Rattle.krb_spnego_rules.specs.declared.initiator.Initiator.{Initiator}
use Rattle.krb_spnego_rules.specs.declared.initiator.Initiator.TheVariants as initiators
use Rattle.krb_spnego_rules.specs.declared.initiator.Offered.{Offered}
use Rattle.krb_spnego_rules.specs.declared.side.Running.{Running}
use Rattle.krb_spnego.specs.Taking.{AcceptorTakes, InitiatorTakes, Taken}
use Rattle.krb_spnego.specs.Told.{is_told_name, told_meaning}
use Rattle.krb_spnego.specs.declared.told.Told.{Told}

-- the same mechanism, of which something else is told: its step, a MIC that it verified, its own MIC
pub record IsRetold (a b : Told) : Type 0 where
  pub oid : b.oid.items ≡ a.oid.items
  pub names : (arcs : List ℕ) → is_told_name b arcs ≡ is_told_name a arcs
  pub established : b.established ≡ a.established

abbrev pub AreRetold : List Told → List Told → Type 0
AreRetold [] [] = Unit {0}
AreRetold (x ∷ xs) (y ∷ ys) = IsRetold x y × AreRetold xs ys
AreRetold [] (y ∷ ys) = ⊥
AreRetold (x ∷ xs) [] = ⊥

pub record IsRunningRetold (a b : Running Told) : Type 0 where
  pub mechanism : IsRetold a.mechanism b.mechanism
  pub name : b.name.items ≡ a.name.items
  pub established : b.established ≡ a.established
  pub terms : b.terms ≡ a.terms
  pub list_is : b.list.items ≡ a.list.items

pub record IsOfferedRetold (a b : Offered Told) : Type 0 where
  pub first : IsRetold a.first b.first
  pub others : AreRetold a.others.items b.others.items
  pub established : b.established ≡ a.established
  pub list_is : b.list.items ≡ a.list.items

-- ---- an initiator: it is at the same stage, and who is complete, or has failed, is the same

abbrev pub InitiatorRetold : Initiator Told → Initiator Told → Type 0
InitiatorRetold (initiators.Offered a) (initiators.Offered b) = IsOfferedRetold a b
InitiatorRetold (initiators.Running a) (initiators.Running b) = IsRunningRetold a b
InitiatorRetold (initiators.Complete a) b = b ≡ initiators.Complete a
InitiatorRetold (initiators.Failed refusal) b = b ≡ initiators.Failed refusal
InitiatorRetold a b = ⊥

abbrev pub InitiatorIsTold : EncodingOf NegTokenTarg → Initiator Told → List (List ℕ) → Initiator Told → Type 0
InitiatorIsTold t before [] after = after ≡ before
InitiatorIsTold t before (octets ∷ all) after =
    (told : Initiator Told) × (InitiatorRetold before told
    × ((next : Taken (Initiator Told)) × (InitiatorTakes t told_meaning told octets next × InitiatorIsTold t next.0 all after)))

-- ---- an acceptor, after its first octets

abbrev pub AcceptorRetold : Acceptor Told → Acceptor Told → Type 0
AcceptorRetold (acceptors.Running a) (acceptors.Running b) = IsRunningRetold a b
AcceptorRetold (acceptors.Bare a) (acceptors.Bare b) = IsRetold a.mechanism b.mechanism × (b.established ≡ a.established)
AcceptorRetold (acceptors.Complete a) b = b ≡ acceptors.Complete a
AcceptorRetold (acceptors.Failed refusal) b = b ≡ acceptors.Failed refusal
AcceptorRetold a b = ⊥

abbrev pub AcceptorIsTold : EncodingOf GssApiNegInit → EncodingOf (List (List ℕ)) → EncodingOf NegTokenTarg → Acceptor Told → List (List ℕ) → Acceptor Told
    → Type 0
AcceptorIsTold o l t before [] after = after ≡ before
AcceptorIsTold o l t before (octets ∷ all) after =
    (told : Acceptor Told) × (AcceptorRetold before told
    × ((next : Taken (Acceptor Told)) × (AcceptorTakes o l t told_meaning told octets next × AcceptorIsTold o l t next.0 all after)))
