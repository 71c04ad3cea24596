-- Records of C, as the definitions of the vhost-user-gpu channel see them: field by field.
use Rattle.vhost_gpu_message.specs.declared.records.cursor.VhostUserGpuCursorPos.{VhostUserGpuCursorPos}
use Rattle.vhost_gpu_message.specs.declared.records.cursor.VhostUserGpuCursorUpdate.{VhostUserGpuCursorUpdate}
use Rattle.vhost_gpu_message.specs.declared.records.scanout.VhostUserGpuUpdate.{VhostUserGpuUpdate}
use Rattle.vhost_gpu_message.specs.declared.records.scanout.VhostUserGpuDMABUFScanout.{VhostUserGpuDMABUFScanout}
use Rattle.vhost_gpu_message.specs.declared.records.scanout.VhostUserGpuDMABUFScanout2.{VhostUserGpuDMABUFScanout2}
use Rattle.vhost_gpu_message.specs.declared.records.scanout.VhostUserGpuScanout.{VhostUserGpuScanout}
use Rattle.vhost_c_channel.specs.declared.display_records.CursorPos.{CursorPos}
use Rattle.vhost_c_channel.specs.declared.display_records.CursorUpdate.{CursorUpdate}
use Rattle.vhost_c_channel.specs.declared.display_records.DmabufScanout.{DmabufScanout}
use Rattle.vhost_c_channel.specs.declared.display_records.DmabufScanout2.{DmabufScanout2}
use Rattle.vhost_c_channel.specs.declared.display_records.Scanout.{Scanout}
use Rattle.vhost_c_channel.specs.declared.display_records.Update.{Update}

abbrev pub scanout_in : Scanout → VhostUserGpuScanout
scanout_in s = record { scanout_id = s.scanout_id; width = s.width; height = s.height }

abbrev pub update_in : Update → VhostUserGpuUpdate
update_in u = record { scanout_id = u.scanout_id; x = u.x; y = u.y; width = u.width; height = u.height }

abbrev pub dmabuf_in : DmabufScanout → VhostUserGpuDMABUFScanout
dmabuf_in d = record {
  scanout_id = d.scanout_id;
  x = d.x;
  y = d.y;
  width = d.width;
  height = d.height;
  fd_width = d.fd_width;
  fd_height = d.fd_height;
  fd_stride = d.fd_stride;
  fd_flags = d.fd_flags;
  fd_drm_fourcc = d.fd_drm_fourcc;
}

abbrev pub dmabuf2_in : DmabufScanout2 → VhostUserGpuDMABUFScanout2
dmabuf2_in d = record { dmabuf_scanout = dmabuf_in d.dmabuf_scanout; modifier = d.modifier }

abbrev pub cursor_pos_in : CursorPos → VhostUserGpuCursorPos
cursor_pos_in c = record { scanout_id = c.scanout_id; x = c.x; y = c.y }

abbrev pub cursor_update_in : CursorUpdate → VhostUserGpuCursorUpdate
cursor_update_in c = record { pos = cursor_pos_in c.pos; hot_x = c.hot_x; hot_y = c.hot_y }
