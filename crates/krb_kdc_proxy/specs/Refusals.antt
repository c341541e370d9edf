-- Which status of HTTP answers a request that does not go through (RFC 9110, 15.5.1, 15.5.14 and 15.6.4).
use Rattle.std.specs.Prelude.{ℕ}
use Rattle.krb_kdc_proxy.specs.declared.error.ProxyError.{ProxyError}
use Rattle.krb_kdc_proxy.specs.declared.error.ProxyError.TheVariants as errors

abbrev pub http_status : ProxyError → ℕ
http_status errors.TooLarge = 413
http_status errors.OutOfMemory = 503
http_status other = 400
