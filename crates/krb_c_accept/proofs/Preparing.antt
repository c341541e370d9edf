-- Which refusal of what a service asks comes first.
use Rattle.std.proofs.Common.{inl, inr}
use Rattle.krb_c_calls.specs.declared.call_error.CallError.{CallError}
use Rattle.krb_c_accept.specs.Inputs.{Inputs}
use Rattle.krb_c_accept.specs.Names.{AreNoRealms, AreNoServers}
use Rattle.krb_c_accept.specs.Prepared.{HaveServers, HaveSessionKeys, IsNotPrepared, no_memory, no_realms, no_servers}
use Rattle.krb_c_accept.specs.Refusing.{IsMemoryOrInvalid}

pub servers_first : (i : Inputs) (e : CallError) → HaveSessionKeys i → IsMemoryOrInvalid (AreNoServers i.servers) e → IsNotPrepared i e
servers_first i e keys (inl memory) = no_memory memory
servers_first i e keys (inr none) = no_servers keys none.1 none.0

pub realms_first : (i : Inputs) (e : CallError) → HaveServers i → IsMemoryOrInvalid (AreNoRealms i.realms) e → IsNotPrepared i e
realms_first i e servers (inl memory) = no_memory memory
realms_first i e servers (inr none) = no_realms servers none.1 none.0
