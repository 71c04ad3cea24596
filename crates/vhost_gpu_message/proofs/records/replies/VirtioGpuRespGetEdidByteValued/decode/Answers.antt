use Rattle.std.proofs.Common.{ap, ◌∙◌}
use Rattle.vhost_message.specs.Text.{number_at}
use Rattle.vhost_message.proofs.Numbers.{number_of_rest}
use Rattle.vhost_gpu_message.specs.CtrlHdr.{ctrl_hdr_of}
use Rattle.vhost_gpu_message.proofs.ScreensAt.{ctrl_hdr_of-take, edid_behind}
use Rattle.vhost_gpu_message.proofs.records.replies.VirtioGpuRespGetEdidByteValued.decode.Goals as goal

pub returns-clause-read : goal.returns-clause-read
returns-clause-read c =
    let bytes = c.args.b.now in
    let back = c.split_at.ensures.back in
    let hdr = c.decode.ensures.read ∙ ap ctrl_hdr_of c.split_at.ensures.front ∙ ctrl_hdr_of-take bytes in
    let size = c.read_u32.ensures ∙ ap (number_at 0 4) back in
    let padding = c.read_u32-2.ensures ∙ number_of_rest 4 4 c.split_at.result.1.now ∙ ap (number_at 4 4) back in
    let edid = edid_behind c.split_at.result.1.now bytes c.copy_from_slice.new.self back c.requires c.copy_from_slice.ensures.after in
    λ i. record { hdr = hdr i; size = size i; padding = padding i; edid = edid i }
