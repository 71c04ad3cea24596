-- A call's message, but for its pixels.
use Rattle.std.proofs.Common.{[], None, Some, refl, ap, ◌∙◌, inl, inr}
use Rattle.vhost_protocol.specs.Gpu.{TheFeatures, TheDisplayInfo, TheEdid, TheEmpty}
use Rattle.vhost_gpu_backend_req.specs.Halves.{code_in, pixels_of}
use Rattle.vhost_gpu_backend_req.specs.declared.call.GpuCall.TheVariants as call
use Rattle.vhost_gpu_backend_req.proofs.Answered.{sends-call}
use Rattle.vhost_gpu_backend_req.proofs.internal.BackendInternal.send_call.Goals as goal

pub returns-in-SetProtocolFeatures : goal.returns-in-SetProtocolFeatures
returns-in-SetProtocolFeatures g c pixels long = sends-call g.L.Link.event _ (call.SetProtocolFeatures c.in-SetProtocolFeatures.n) _ pixels _ _ _ c.in-SetProtocolFeatures.is (c.code_of-code.ensures ∙ ap code_in c.in-SetProtocolFeatures.is) (c.send_front.ensures [] None refl refl)

pub returns-in-GetEdid : goal.returns-in-GetEdid
returns-in-GetEdid g c pixels long = sends-call g.L.Link.event _ (call.GetEdid c.in-GetEdid.request) _ pixels _ _ _ c.in-GetEdid.is (c.code_of-code.ensures ∙ ap code_in c.in-GetEdid.is) (c.send_front-in-GetEdid.ensures [] (Some TheEdid) refl refl)

pub returns-in-SetScanout : goal.returns-in-SetScanout
returns-in-SetScanout g c pixels long = sends-call g.L.Link.event _ (call.SetScanout c.in-SetScanout.scanout) _ pixels _ _ _ c.in-SetScanout.is (c.code_of-code.ensures ∙ ap code_in c.in-SetScanout.is) (c.send_front-in-SetScanout.ensures [] None refl refl)

pub returns-in-UpdateScanout : goal.returns-in-UpdateScanout
returns-in-UpdateScanout g c pixels long = sends-call g.L.Link.event _ (call.UpdateScanout c.in-UpdateScanout.update c.in-UpdateScanout.pixels) _ pixels _ _ _ c.in-UpdateScanout.is (c.code_of-code.ensures ∙ ap code_in c.in-UpdateScanout.is) (c.send_front-in-UpdateScanout.ensures pixels None (long ∙ ap pixels_of c.in-UpdateScanout.is) refl)

pub returns-in-SetDmabufScanout : goal.returns-in-SetDmabufScanout
returns-in-SetDmabufScanout g c pixels long = sends-call g.L.Link.event _ (call.SetDmabufScanout c.in-SetDmabufScanout.scanout c.in-SetDmabufScanout.handle) _ pixels _ _ _ c.in-SetDmabufScanout.is (c.code_of-code.ensures ∙ ap code_in c.in-SetDmabufScanout.is) (c.send_with.ensures None refl)

pub returns-in-SetDmabufScanout2 : goal.returns-in-SetDmabufScanout2
returns-in-SetDmabufScanout2 g c pixels long = sends-call g.L.Link.event _ (call.SetDmabufScanout2 c.in-SetDmabufScanout2.scanout c.in-SetDmabufScanout2.handle) _ pixels _ _ _ c.in-SetDmabufScanout2.is (c.code_of-code.ensures ∙ ap code_in c.in-SetDmabufScanout2.is) (c.send_with-in-SetDmabufScanout2.ensures None refl)

pub returns-in-UpdateDmabufScanout : goal.returns-in-UpdateDmabufScanout
returns-in-UpdateDmabufScanout g c pixels long = sends-call g.L.Link.event _ (call.UpdateDmabufScanout c.in-UpdateDmabufScanout.update) _ pixels _ _ _ c.in-UpdateDmabufScanout.is (c.code_of-code.ensures ∙ ap code_in c.in-UpdateDmabufScanout.is) (c.send_front-in-UpdateDmabufScanout.ensures [] (Some TheEmpty) refl refl)

pub returns-in-CursorUpdate : goal.returns-in-CursorUpdate
returns-in-CursorUpdate g c pixels long = sends-call g.L.Link.event _ (call.CursorUpdate c.in-CursorUpdate.update) _ pixels _ _ _ c.in-CursorUpdate.is (c.code_of-code.ensures ∙ ap code_in c.in-CursorUpdate.is) (c.send_front-in-CursorUpdate.ensures pixels None (long ∙ ap pixels_of c.in-CursorUpdate.is) refl)

pub returns-in-GetProtocolFeatures : goal.returns-in-GetProtocolFeatures
returns-in-GetProtocolFeatures g c pixels long = elim c.in-GetProtocolFeatures.is [
  | inl is ↦ sends-call g.L.Link.event _ call.GetProtocolFeatures _ pixels _ _ _ is (c.code_of-code.ensures ∙ ap code_in is) (c.send_front-in-GetProtocolFeatures.ensures [] (Some TheFeatures) refl refl)
  | inr is ↦ sends-call g.L.Link.event _ call.GetDisplayInfo _ pixels _ _ _ is (c.code_of-code.ensures ∙ ap code_in is) (c.send_front-in-GetProtocolFeatures.ensures [] (Some TheDisplayInfo) refl refl)
]

pub returns-in-CursorPos : goal.returns-in-CursorPos
returns-in-CursorPos g c pixels long = elim c.in-CursorPos.is [
  | inl is ↦ sends-call g.L.Link.event _ (call.CursorPos c.in-CursorPos.cursor) _ pixels _ _ _ is (c.code_of-code.ensures ∙ ap code_in is) (c.send_front-in-CursorPos.ensures [] None refl refl)
  | inr is ↦ sends-call g.L.Link.event _ (call.CursorPosHide c.in-CursorPos.cursor) _ pixels _ _ _ is (c.code_of-code.ensures ∙ ap code_in is) (c.send_front-in-CursorPos.ensures [] None refl refl)
]
