-- The shape of a body's content, or the refusal of the first fault in it.
use Rattle.std.specs.declared.result.Result.TheVariants.{Ok, Err}
use Rattle.pathmap.specs.Contents.{Content}
use Rattle.typed.specs.declared.fault.Cause.{Cause}
use Rattle.typed.specs.declared.fault.Cause.TheVariants.{NotAnObject, UnknownField, WrongType, DuplicateItem, KeyFieldMissing}
use Rattle.typed.specs.Faults.{Read, cause_text}
use Rattle.api_request.specs.declared.cause_type.CauseType.{CauseType}
use Rattle.api_request.specs.declared.cause_type.CauseType.TheVariants.{FieldValueRequired, FieldValueDuplicate, FieldValueInvalid}
use Rattle.api_request.specs.declared.reason.Reason.{Reason}
use Rattle.api_request.specs.declared.reason.Reason.TheVariants.{BadRequest, Invalid}
use Rattle.api_request.specs.Validated.{Validated, field_refusal}

abbrev pub fault_reason : Cause → Reason
fault_reason NotAnObject = BadRequest
fault_reason UnknownField = BadRequest
fault_reason WrongType = BadRequest
fault_reason DuplicateItem = Invalid
fault_reason KeyFieldMissing = Invalid

-- as a cause names it
abbrev pub cause_type : Cause → CauseType
cause_type NotAnObject = FieldValueInvalid
cause_type UnknownField = FieldValueInvalid
cause_type WrongType = FieldValueInvalid
cause_type DuplicateItem = FieldValueDuplicate
cause_type KeyFieldMissing = FieldValueRequired

-- a fault in the shape, with its path
abbrev pub shape_validated : Read Content → Validated Content
shape_validated (Ok c) = Ok c
shape_validated (Err e) = Err (field_refusal (fault_reason e.0) (cause_type e.0) e.1 (cause_text e.0))
