-- The input through a proxy, and why nothing passes.
use Rattle.std.specs.Prelude.{◌≡◌, ℕ, List, None, codes}
use Rattle.krb_kdc_proxy.specs.declared.error.ProxyError.{ProxyError}
use Rattle.krb_kdc_proxy.specs.declared.error.ProxyError.TheVariants as errors
use Rattle.krb_messages.specs.Rejected.{der_error}
use Rattle.krb_messages.specs.declared.kpasswd.error.MessageError.{MessageError}
use Rattle.krb_show_any.specs.declared.error.PageError.TheVariants as page
use Rattle.krb_show_any.specs.Names.{kind_name}
use Rattle.krb_show_any.specs.declared.kind.Kind.{Kind}
use Rattle.jolmurig.specs.Calls.{Blocks}
use Rattle.jolmurig.specs.Failures.{kind_of_message}
use Rattle.jolmurig_command.specs.declared.command.Direction.{Direction}
use Rattle.jolmurig.specs.declared.failure.Failure.{Failure}
use Rattle.jolmurig.specs.declared.failure.Failure.TheVariants as failure

-- the octets are of a kind of this name, and refused for this reason
abbrev pub IsOfKind : List ℕ → MessageError → Failure → Type 0
IsOfKind name why e = (kind : Kind) × (kind_name kind ≡ name) × (e ≡ failure.Octets kind (page.Der (der_error why)) None)

-- the failure that an error of a proxy is
abbrev pub IsProxyFailure : ProxyError → Failure → Type 0
IsProxyFailure (errors.ProxyMessage why) e = IsOfKind (codes "KDC-PROXY-MESSAGE") why e
IsProxyFailure (errors.Message k why) e = e ≡ failure.Octets (kind_of_message k) (page.Der (der_error why)) None
IsProxyFailure errors.OutOfMemory e = e ≡ failure.Memory
IsProxyFailure rule e = e ≡ failure.Proxy rule

-- the first rule that the octets break
abbrev pub IsBlocked : Blocks → Direction → List ℕ → Failure → Type 0
IsBlocked blocks way octets e = (why : ProxyError) × blocks way octets why × IsProxyFailure why e
