-- The object identifiers of mechanisms (RFC 4121; RFC 4178; MS-SPNG; MS-NLMP; MS-NEGOEX; draft-swift-win2k-krb-user2user-03;
-- draft-ietf-kitten-iakerb-03; draft-zhu-pku2u-09).
use Rattle.std.specs.Prelude.{ℕ, List, [], ◌∷◌}
use Rattle.krb_build.specs.declared.mechanisms.Mechanism.{Mechanism}
use Rattle.krb_build.specs.declared.mechanisms.Mechanism.TheVariants.{Kerberos, UserToUser, MsKerberos, Ntlmssp, Negoex, Iakerb, Pku2u, Spnego}

abbrev pub arcs : Mechanism → List ℕ
arcs Kerberos = 1 ∷ 2 ∷ 840 ∷ 113554 ∷ 1 ∷ 2 ∷ 2 ∷ []
arcs UserToUser = 1 ∷ 2 ∷ 840 ∷ 113554 ∷ 1 ∷ 2 ∷ 2 ∷ 3 ∷ []
arcs MsKerberos = 1 ∷ 2 ∷ 840 ∷ 48018 ∷ 1 ∷ 2 ∷ 2 ∷ []
arcs Ntlmssp = 1 ∷ 3 ∷ 6 ∷ 1 ∷ 4 ∷ 1 ∷ 311 ∷ 2 ∷ 2 ∷ 10 ∷ []
arcs Negoex = 1 ∷ 3 ∷ 6 ∷ 1 ∷ 4 ∷ 1 ∷ 311 ∷ 2 ∷ 2 ∷ 30 ∷ []
arcs Iakerb = 1 ∷ 3 ∷ 6 ∷ 1 ∷ 5 ∷ 2 ∷ 5 ∷ []
arcs Pku2u = 1 ∷ 3 ∷ 6 ∷ 1 ∷ 5 ∷ 2 ∷ 7 ∷ []
arcs Spnego = 1 ∷ 3 ∷ 6 ∷ 1 ∷ 5 ∷ 5 ∷ 2 ∷ []

-- all of them
abbrev pub every : List Mechanism
every = Kerberos ∷ UserToUser ∷ MsKerberos ∷ Ntlmssp ∷ Negoex ∷ Iakerb ∷ Pku2u ∷ Spnego ∷ []
