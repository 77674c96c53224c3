-- Conversions of faults.
use Rattle.derivation_check.specs.declared.cert_fault.CertFault.{CertFault}
use Rattle.derivation_check.specs.declared.cert_fault.CertFault.TheVariants as certs
use Rattle.verify_core.specs.declared.fault.CheckFault.{CheckFault}
use Rattle.verify_core.specs.declared.fault.CheckFault.TheVariants as checks
use Rattle.verify_core.specs.declared.verify_fault.VerifyFault.{VerifyFault}
use Rattle.verify_core.specs.declared.verify_fault.VerifyFault.TheVariants.{Check, Cert, NoMemory}

abbrev pub of_check : CheckFault → VerifyFault
of_check checks.NoMemory = NoMemory
of_check fault = Check fault

abbrev pub of_cert : CertFault → VerifyFault
of_cert certs.NoMemory = NoMemory
of_cert fault = Cert fault
