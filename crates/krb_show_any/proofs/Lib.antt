mod FrameSizes
